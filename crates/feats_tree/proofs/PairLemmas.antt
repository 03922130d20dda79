-- The order of pairs.
use Rattle.std.proofs.Common.{arith, ℕ, ◌<◌, ◌≤◌, ◌⊎◌, inl, inr, ⊎_elim, ◌≡◌, Bool, true, false, List, IsSorted, AllPairs, refl, cond, ◌∙◌, ap, sym, ◌+◌, [], ◌∷◌, ◌++◌, map, take, length, get_or}
use Rattle.std.specs.Cmp.{IsTotalOrder, nat_cmp_total, on_total, then_total}
use Rattle.std.specs.Ordering.{is_lt, nat_cmp, ordering_then}
use Rattle.std.specs.Prelude.{nat_lt, ◌==◌, slice_index_or}
use Rattle.std.specs.declared.cmp.Ordering.{Ordering}
use Rattle.std.specs.declared.cmp.Ordering.TheVariants.{Less, Equal, Greater}
use Rattle.std.proofs.lemmas.Bool.Decides.{nat_tests}
use Rattle.std.proofs.lemmas.List.{map-append, take_more}
use Rattle.std.proofs.lemmas.List.Sorted.{sorted_far, ranks_by}
use Rattle.feats_tree.specs.trees.Reversals.{IsNoLater, turned}

-- by the first numbers, and then by the second
abbrev pub pair_cmp : ℕ × ℕ → ℕ × ℕ → Ordering
pair_cmp x y = ordering_then (nat_cmp x.0 y.0) (nat_cmp x.1 y.1)

lex : (l e : Bool) (o : Ordering) → is_lt (ordering_then (cond l Less (cond e Equal Greater)) o) ≡ false → (l ≡ false) × ((e ≡ false) ⊎ (is_lt o ≡ false))
lex true e o h = cc
lex false true o h = (refl, inr h)
lex false false o h = (refl, inl refl)

up_to : (x y : ℕ) → nat_lt x y ≡ false → y ≤ x
up_to x y h = grind (arith, nat_tests)

apart : (x y : ℕ) → y ≤ x → (x == y) ≡ false → y < x
apart x y h e = grind (arith, nat_tests)

below_or : (x y : ℕ) → y ≤ x → (y < x) ⊎ (y ≡ x)
below_or x y h = grind arith

-- x isn't less than y, in the first number or by the second
ordered : (x y : ℕ) (o : Ordering) → is_lt (ordering_then (nat_cmp x y) o) ≡ false → (y < x) ⊎ ((y ≡ x) × (is_lt o ≡ false))
ordered x y o h =
    let k : (nat_lt x y ≡ false) × (((x == y) ≡ false) ⊎ (is_lt o ≡ false)) = lex (nat_lt x y) (x == y) o h in
    let up : y ≤ x = up_to x y k.0 in
    ⊎_elim (λ e. inl (apart x y up e)) (λ e. ⊎_elim (λ z. inl z) (λ z. inr (z, e)) (below_or x y up)) k.1

not_less : (l e : Bool) → is_lt (cond l Less (cond e Equal Greater)) ≡ false → l ≡ false
not_less true e h = cc
not_less false e h = refl

no_less : (x y : ℕ) → is_lt (nat_cmp x y) ≡ false → y ≤ x
no_less x y h = up_to x y (not_less (nat_lt x y) (x == y) h)

up_from : (a b : ℕ × ℕ) → is_lt (pair_cmp b a) ≡ false → IsNoLater a b
up_from a b h = ⊎_elim (λ z. inl z) (λ z. inr (z.0, no_less b.1 a.1 z.1)) (ordered b.0 a.0 (nat_cmp b.1 a.1) h)

pair_total : IsTotalOrder pair_cmp
pair_total = then_total (on_total (λ (t : ℕ × ℕ). t.0) nat_cmp_total) (on_total (λ (t : ℕ × ℕ). t.1) nat_cmp_total)

pub all_up : (links : List (ℕ × ℕ)) → IsSorted pair_cmp links → AllPairs IsNoLater links
all_up links s i j d l m = up_from (slice_index_or links i d) (slice_index_or links j d) (sorted_far (λ x y. is_lt (pair_cmp x y)) (ranks_by pair_total (λ x. x)) links s i j d (omega arith) m)

-- one more link was turned round
pub turned_more : (links : List (ℕ × ℕ)) (i : ℕ) (d : ℕ × ℕ) (old new : List (ℕ × ℕ)) → i < length links → old ≡ map turned (take i links) → new ≡ old ++ turned (get_or links i d) ∷ [] → new ≡ map turned (take (i + 1) links)
turned_more links i d old new h was is =
    is ∙ ap (λ z. z ++ turned (get_or links i d) ∷ []) was
    ∙ sym (ap (map turned) (take_more links i d h) ∙ map-append turned (take i links) (get_or links i d ∷ []))
