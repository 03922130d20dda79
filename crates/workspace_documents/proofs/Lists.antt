-- Reading the items of a list, step by step.
use Rattle.std.proofs.Common.{◌≡◌, ◌∙◌, sym, ap, refl, ℕ, ◌+◌, ◌<◌, List, [], ◌∷◌, ◌++◌, length, drop, get_or, append_assoc, add-one, drop-cons, Bor}
use Rattle.std.specs.Prelude.{Result, Ok, Err}
use Rattle.std.specs.declared.alloc.Global.{Global}
use Rattle.json.specs.Json.{Json}
use Rattle.json.specs.Value.{value_view, items_view}
use Rattle.json.specs.declared.value.Value.{Value}
use Rattle.cargo_json.specs.declared.fault.Place.{Place}
use Rattle.cargo_json.specs.Faults.{Text, Refusal, bad_field, repeated, no_package, ambiguous, two_names, control, every_platform, no_deps, out_of_memory, IfNotMemory, ◌>>=◌}
use Rattle.workspace_documents.specs.Lists.{each}
use Rattle.cargo_workspaces.specs.Workspaces.{FeatureText}
use Rattle.workspace_documents.specs.Packages.{feature_in, features_of}
use Rattle.workspace_documents.specs.Views.{entries_view}

pub if_not_memory : {P Q : Type 0} (r : Refusal) → (P → Q) → IfNotMemory r P → IfNotMemory r Q
if_not_memory (bad_field at name) f h = f h
if_not_memory (repeated at) f h = f h
if_not_memory (no_package at name id) f h = f h
if_not_memory (ambiguous owner name) f h = f h
if_not_memory (two_names owner target first second) f h = f h
if_not_memory (control text) f h = f h
if_not_memory (every_platform at) f h = f h
if_not_memory no_deps f h = f h
if_not_memory out_of_memory f h = tt

-- `xs` and then the rest, or the fault of the rest
abbrev pub prepend : {X : Type 0} → List X → Result (List X) Refusal → Result (List X) Refusal
prepend xs rest = rest >>= λ ys. Ok (xs ++ ys)

pub prepend_one : {X : Type 0} (xs : List X) (x : X) (rest : Result (List X) Refusal) → prepend xs (rest >>= λ ys. Ok (x ∷ ys)) ≡ prepend (xs ++ x ∷ []) rest
prepend_one xs x (Ok ys) = ap Ok (sym (append_assoc xs (x ∷ []) ys))
prepend_one xs x (Err e) = refl

abbrev pub shown : Bor (Value Global) → Json
shown v = value_view v.now

-- one more item, read as `x`, moves from the rest to `xs`
pub each_more : {X : Type 0} (read : ℕ → Json → Result X Refusal) (vs : List (Value Global)) (i : ℕ) (v : Value Global) (xs : List X) (x : X) (whole : Result (List X) Refusal) → i < length vs → v ≡ get_or vs i v → read i (value_view v) ≡ Ok x → whole ≡ prepend xs (each read i (items_view (drop i vs))) → whole ≡ prepend (xs ++ x ∷ []) (each read (i + 1) (items_view (drop (i + 1) vs)))
each_more read vs i v xs x whole within is was_read so =
    let at : drop i vs ≡ get_or vs i v ∷ drop (i + 1) vs = rw (add-one, drop-cons vs i v within) refl in
    let here : read i (value_view (get_or vs i v)) ≡ Ok x = rw (sym is) was_read in
    so ∙ rw (at, here) (prepend_one xs x (each read (i + 1) (items_view (drop (i + 1) vs))))

-- one more feature moves from the rest to `fs`
pub features_more : (at : Place) (left rest : List (Bor Text × Bor (Value Global))) (m : Bor Text × Bor (Value Global)) (f : FeatureText) (fs : List FeatureText) (whole : Result (List FeatureText) Refusal) → left ≡ m ∷ rest → feature_in at (m.0.now, value_view m.1.now) ≡ Ok f → whole ≡ prepend fs (features_of at (entries_view shown left)) → whole ≡ prepend (fs ++ f ∷ []) (features_of at (entries_view shown rest))
features_more at left rest m f fs whole e read so =
    let step : features_of at (entries_view shown left) ≡ (features_of at (entries_view shown rest) >>= λ more. Ok (f ∷ more)) = rw (e, read) refl in
    so ∙ ap (prepend fs) step ∙ prepend_one fs f (features_of at (entries_view shown rest))
