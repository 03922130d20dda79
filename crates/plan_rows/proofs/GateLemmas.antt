-- Items with gates, and lists that correspond.
use Rattle.std.proofs.Common.{◌≡◌, ℕ, zero, suc, ◌+◌, ◌<◌, List, [], ◌∷◌, ◌++◌, Bool, true, false, if◌then◌else◌, Option, None, Some, option_map, length, map, get_or, drop, codes, flat_map, refl, sym, ap, ap₂, ◌∙◌, arith, append_assoc, add-one, drop-cons}
use Rattle.std.specs.Prelude.{◌≤◌, slice_get, HoldsAt, IfSome, MatchOption}
use Rattle.std.proofs.lemmas.Option.{slice_get_past, slice_get_read}
use Rattle.guppy_packages.specs.Items.{Item, feature_item, optional_item, slash_item, item_of}
use Rattle.guppy_packages.proofs.Lists.{drop_at}
use Rattle.cargo_workspaces.specs.Workspaces.{Text, FeatureText, PackageText}
use Rattle.plan_rows.specs.Commands.{command_of, is_started}
use Rattle.plan_rows.specs.Steps.{command_list, gate_of, gated_feature, started_entry, with_gates}
use Rattle.plan_rows.specs.inner.Merged.{is_waiting, left, merged, taken}
use Rattle.plan_rows.specs.inner.Starts.{start}

abbrev all_gates : List Text → List Text
all_gates items = flat_map (λ item. gate_of (item_of item)) items

-- items merged with all of their gates
pub merged-all : (items : List Text) → merged items (flat_map (λ item. gate_of (item_of item)) items) ≡ with_gates items
merged-all [] = refl
merged-all (x ∷ xs) = go (item_of x) (merged-all xs)
  where
    go : (i : Item) → merged xs (all_gates xs) ≡ with_gates xs → taken (is_waiting i) (gate_of i ++ all_gates xs) ++ (x ∷ merged xs (left (is_waiting i) (gate_of i ++ all_gates xs))) ≡ (gate_of i ++ x ∷ []) ++ with_gates xs
    go (feature_item f) h = ap (λ z. x ∷ z) h
    go (optional_item name) h = ap (λ z. x ∷ z) h
    go (slash_item name f true) h = ap (λ z. (codes "dep:" ++ name) ∷ x ∷ z) h
    go (slash_item name f false) h = ap (λ z. x ∷ z) h

-- items merged with no gates
pub merged-none : (items : List Text) → merged items [] ≡ items
merged-none [] = refl
merged-none (x ∷ xs) = go (is_waiting (item_of x)) (merged-none xs)
  where
    go : (b : Bool) → merged xs [] ≡ xs → taken b [] ++ (x ∷ merged xs (left b [])) ≡ x ∷ xs
    go true h = ap (λ z. x ∷ z) h
    go false h = ap (λ z. x ∷ z) h

pub none_from_length : {X : Type 0} (f : X → Text) (xs : List X) → length xs ≡ 0 → map f xs ≡ []
none_from_length f [] h = refl
none_from_length f (x ∷ xs) h = absurd (omega arith)

-- lists whose images are equal correspond at each place
pub same_at : {W X Y Z : Type 0} (f : X → Z) (g : Y → Z) (h : W → Y) (xs : List X) (ys : List W) (i : ℕ) (d : X) (e : W) → map f xs ≡ map g (map h ys) → i < length ys → f (get_or xs i d) ≡ g (h (get_or ys i e))
same_at f g h [] [] i d e is within = absurd (omega arith)
same_at f g h [] (y ∷ ys) i d e is within = cc
same_at f g h (x ∷ xs) [] i d e is within = cc
same_at f g h (x ∷ xs) (y ∷ ys) zero d e is within = cc
same_at f g h (x ∷ xs) (y ∷ ys) (suc i) d e is within =
    let more : map f xs ≡ map g (map h ys) = cc in
    same_at f g h xs ys i d e more (omega arith)

-- the gate that an item takes
pub taken-next : (waiting : Bool) (gates : List Text) (next : ℕ) (gate : Text) → waiting ≡ true → slice_get gates next ≡ Some gate → taken waiting (drop next gates) ≡ gate ∷ []
taken-next waiting gates next gate waits got = rw (waits, drop_at gates next gate got) refl

drop-next : (n : ℕ) (xs : List Text) → drop 1 (drop n xs) ≡ drop (suc n) xs
drop-next zero xs = refl
drop-next (suc n) [] = refl
drop-next (suc n) (x ∷ xs) = drop-next n xs

left-next : (waiting : Bool) (gates : List Text) (next after : ℕ) → after ≡ (if waiting then next + 1 else next) → left waiting (drop next gates) ≡ drop after gates
left-next true gates next after is =
    let more : after ≡ next + 1 = is in
    let one : suc next ≡ after = omega arith in
    drop-next next gates ∙ ap (λ n. drop n gates) one
left-next false gates next after is = ap (λ n. drop n gates) (sym is)

-- one more item merged
pub merged-step : {X : Type 0} (view : X → Text) (xs : List X) (gates : List Text) (i next after : ℕ) (d : X) (waiting : Bool) (all r0 r1 r2 : List Text) → i < length xs
    → waiting ≡ is_waiting (item_of (view (get_or xs i d))) → after ≡ (if waiting then next + 1 else next) → all ≡ r0 ++ merged (map view (drop i xs)) (drop next gates)
    → r1 ≡ r0 ++ taken waiting (drop next gates) → r2 ≡ r1 ++ view (get_or xs i d) ∷ [] → all ≡ r2 ++ merged (map view (drop (i + 1) xs)) (drop after gates)
merged-step view xs gates i next after d waiting all r0 r1 r2 within waits is_after is e1 e2 =
    let here = view (get_or xs i d) in
    let items = map view (drop (i + 1) xs) in
    let rest = drop next gates in
    let more = merged items (drop after gates) in
    let cut : drop i xs ≡ get_or xs i d ∷ drop (i + 1) xs = rw (add-one, drop-cons xs i d within) refl in
    is ∙ ap (λ z. r0 ++ merged (map view z) rest) cut
    ∙ ap (λ w. r0 ++ (taken w rest ++ (here ∷ merged items (left w rest)))) (sym waits)
    ∙ ap (λ z. r0 ++ (taken waiting rest ++ (here ∷ merged items z))) (left-next waiting gates next after is_after)
    ∙ sym (append_assoc r0 (taken waiting rest) (here ∷ more))
    ∙ ap (λ z. z ++ (here ∷ more)) (sym e1)
    ∙ sym (append_assoc r1 (here ∷ []) more)
    ∙ ap (λ z. z ++ more) (sym e2)

-- the number of the next gate is at most that of the next item
pub after-le : (waiting : Bool) (next after i : ℕ) → after ≡ (if waiting then next + 1 else next) → next ≤ i → after ≤ i + 1
after-le true next after i is h =
    let more : after ≡ next + 1 = is in
    omega arith
after-le false next after i is h =
    let same : after ≡ next = is in
    omega arith

-- what `get` lends, seen through `view`
pub got_view : {R X Z : Type 0} (view : X → Z) (now : R → X) (xs : List X) (i : ℕ) (r : Option R) → MatchOption r (length xs ≤ i) (λ x. (i < length xs) × HoldsAt (λ y. now x ≡ y) xs i) → IfSome r (λ x. now x ≡ get_or xs i (now x))
    → option_map (λ x. view (now x)) r ≡ option_map view (slice_get xs i)
got_view view now xs i None past is = sym (ap (option_map view) (slice_get_past xs i past))
got_view view now xs i (Some x) at is = sym (ap (option_map view) (slice_get_read xs (length xs) i (now x) refl at.0 is))

-- the start of a package, from its features and its command feature
pub start-is : {X : Type 0} (view : X → List FeatureText) (xs : List X) (commands : List (Option FeatureText)) (p : ℕ) (x : PackageText) (fs : List FeatureText) → map view xs ≡ map (λ c. map gated_feature (command_list c)) commands → fs ≡ map gated_feature x.features
    → start (is_started commands p) fs (option_map view (slice_get xs p)) x ≡ started_entry (command_of commands p) x
start-is view [] [] p x fs is features = refl
start-is view [] (c ∷ cs) p x fs is features = cc
start-is view (y ∷ ys) [] p x fs is features = cc
start-is view (y ∷ ys) (None ∷ cs) zero x fs is features = refl
start-is view (y ∷ ys) (Some c ∷ cs) zero x fs is features =
    let command : view y ≡ gated_feature c ∷ [] = cc in
    ap₂ (λ a b. start true a (Some b) x) features command
start-is view (y ∷ ys) (c ∷ cs) (suc p) x fs is features =
    let more : map view ys ≡ map (λ c. map gated_feature (command_list c)) cs = cc in
    start-is view ys cs p x fs more features
