-- Keys compare `Equal` exactly if their spots are the same.
use Rattle.std.proofs.Common.{◌≡◌, ◌∙◌, sym, ap, ap₂, refl, ℕ, ◌+◌, ◌<◌, List, [], ◌∷◌, ◌++◌, Bool, true, false, cond, map, take, length, get_or, if◌then◌else◌}
use Rattle.std.specs.Prelude.{◌==◌, ◌&&◌, ◌||◌, not}
use Rattle.std.specs.Bool.{beq}
use Rattle.std.specs.BTreeSet.{BTreeSet}
use Rattle.std.specs.Cmp.{eq_by_cmp_equiv, nat_cmp_total, tied_then, unsigned_ties}
use Rattle.std.specs.List.{list_any}
use Rattle.std.specs.Ordering.{is_eq, nat_cmp, bool_cmp, ordering_then}
use Rattle.std.proofs.lemmas.List.Folds.{list_any_more}
use Rattle.feature_labels.specs.Names.{label_cmp}
use Rattle.feature_labels.specs.Orders.{label_eq, label_eq_equiv}
use Rattle.feature_labels.specs.contracts.feature_label.FeatureLabelOrd.TheImpl as order
use Rattle.feature_labels.proofs.Derived.{label_cmp-derived}
use Rattle.plan_whys.specs.links.Links.{indexes_of}
use Rattle.plan_whys.specs.links.SpotLinks.{is_command}
use Rattle.plan_rows.specs.Steps.{is_host}
use Rattle.cargo_plans.specs.plan_starts.Lists.{joined_from}
use Rattle.plan_whys.specs.Steps.{SpotText}
use Rattle.plan_whys.specs.StepViews.{spot_text}
use Rattle.plan_whys.specs.declared.steps.Spot.{Spot}
use Rattle.feats_tree.specs.features.Roots.{is_same, wanted_spots}
use Rattle.feats_tree.specs.features.inner.Keys.{HasSpots, Key, has_key, is_at, key_of}

same_bools : (a b : Bool) → is_eq (bool_cmp a b) ≡ beq b a
same_bools true true = refl
same_bools true false = refl
same_bools false true = refl
same_bools false false = refl

grouped : (a b c : Bool) → ((a && b) && c) ≡ (a && (b && c))
grouped true b c = refl
grouped false b c = refl

either : (a b : Bool) → cond a true b ≡ (b || a)
either true true = refl
either true false = refl
either false true = refl
either false false = refl

same_numbers : (m n : ℕ) → is_eq (nat_cmp m n) ≡ (n == m)
same_numbers m n = (eq_by_cmp_equiv nat_cmp_total).symm m n ∙ sym (unsigned_ties n m)

same_keys : (x s : Spot) → is_at (key_of x) (key_of s) ≡ is_same (spot_text s) (spot_text x)
same_keys x s =
    let m = (spot_text x).number in
    let n = (spot_text s).number in
    let a = is_host x.side in
    let b = is_host s.side in
    let k = (spot_text x).label in
    let l = (spot_text s).label in
    sym (tied_then (ordering_then (nat_cmp m n) (bool_cmp a b)) (label_cmp k l))
    ∙ rw (sym (tied_then (nat_cmp m n) (bool_cmp a b)), same_numbers m n, same_bools a b, label_eq_equiv.symm k l) (grouped (n == m) (beq b a) (label_eq l k))

-- the same, by the derived order of labels
abbrev pub derived_at : Key → Key → Bool
derived_at a b = is_eq (ordering_then (ordering_then (nat_cmp a.0 b.0) (bool_cmp a.1 b.1)) ((order.ghosts).cmp a.2 b.2))

derived : (a b : Key) → derived_at a b ≡ is_at a b
derived a b = ap (λ o. is_eq (ordering_then (ordering_then (nat_cmp a.0 b.0) (bool_cmp a.1 b.1)) o)) (label_cmp-derived a.2 b.2)

derived_any : (a : Key) (keys : List Key) → list_any (derived_at a) keys ≡ list_any (is_at a) keys
derived_any a keys = λ i. list_any (λ b. derived a b i) keys

-- what a set has after the key of one more spot
pub one_more : (x s : Spot) (key : Key) (old new : List Key) → key ≡ key_of x → list_any (derived_at (key_of s)) new ≡ cond (derived_at key (key_of s)) true (list_any (derived_at (key_of s)) old)
    → list_any (is_at (key_of s)) new ≡ (list_any (is_at (key_of s)) old || is_same (spot_text s) (spot_text x))
one_more x s key old new is grown =
    sym (derived_any (key_of s) new)
    ∙ grown
    ∙ ap₂ (λ a b. cond a true b) (derived key (key_of s) ∙ ap (λ k. is_at k (key_of s)) is ∙ same_keys x s) (derived_any (key_of s) old)
    ∙ either (is_same (spot_text s) (spot_text x)) (list_any (is_at (key_of s)) old)

-- the keys of one more spot
pub keys_more : (spots : List Spot) (i : ℕ) (d s : Spot) (old new : Bool) → i < length spots → new ≡ (old || is_same (spot_text s) (spot_text (get_or spots i d))) → old ≡ list_any (λ x. is_same (spot_text s) (spot_text x)) (take i spots)
    → new ≡ list_any (λ x. is_same (spot_text s) (spot_text x)) (take (i + 1) spots)
keys_more spots i d s old new within grown was =
    let test = λ (x : Spot). is_same (spot_text s) (spot_text x) in
    grown ∙ ap (λ b. b || test (get_or spots i d)) was ∙ sym (list_any_more test spots i d within)

-- whether a set has the key of a spot
pub found : (keys : BTreeSet Key) (s : Spot) (key : Key) → key ≡ key_of s → list_any (derived_at key) keys.keys ≡ has_key keys s
found keys s key is = derived_any key keys.keys ∙ ap (λ k. list_any (is_at k) keys.keys) is

any_mapped : (test : SpotText → Bool) (xs : List Spot) → list_any (λ x. test (spot_text x)) xs ≡ list_any test (map spot_text xs)
any_mapped test [] = refl
any_mapped test (x ∷ xs) = ap (λ b. test (spot_text x) || b) (any_mapped test xs)

numbers_mapped : (test : SpotText → Bool) (n : ℕ) (xs : List Spot)
    → joined_from (λ (k : ℕ) (x : Spot). if test (spot_text x) then k ∷ [] else []) n xs ≡ joined_from (λ (k : ℕ) (t : SpotText). if test t then k ∷ [] else []) n (map spot_text xs)
numbers_mapped test n [] = refl
numbers_mapped test n (x ∷ xs) = ap (λ ks. (if test (spot_text x) then n ∷ [] else []) ++ ks) (numbers_mapped test (n + 1) xs)

-- the numbers of the spots whose keys are in the set
pub all_found : (keys : BTreeSet Key) (wanted spots : List Spot) → HasSpots keys wanted → indexes_of (λ s. has_key keys s && not (is_command (spot_text s).label)) spots ≡ wanted_spots (map spot_text wanted) (map spot_text spots)
all_found keys wanted spots has =
    let same : (s : Spot) → has_key keys s ≡ list_any (is_same (spot_text s)) (map spot_text wanted) = λ s. has s ∙ any_mapped (is_same (spot_text s)) wanted in
    (λ i. indexes_of (λ s. same s i && not (is_command (spot_text s).label)) spots)
    ∙ numbers_mapped (λ t. list_any (is_same t) (map spot_text wanted) && not (is_command t.label)) 0 spots
