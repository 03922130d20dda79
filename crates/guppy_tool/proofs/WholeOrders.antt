-- The order of the set of all nodes.
use Rattle.std.proofs.Common.{◌≡◌, ℕ, zero, suc, ◌<◌, Bool, true, List, [], ◌∷◌, length, filter, replicate, cond, refl, ap, ◌∙◌, arith}
use Rattle.std.specs.Prelude.{slice_index, reverse}
use Rattle.digraphs.specs.Bits.{has}
use Rattle.digraph_orders.specs.Orders.{ListsEach}
use Rattle.guppy_support.specs.Views.{in_order}
use Rattle.guppy_support.specs.declared.reading.Reading.TheVariants as reading

-- the set of all numbers below n contains each of them
in_full : (n v : ℕ) → v < n → has (replicate n true) v ≡ true
in_full zero v within = absurd (omega (arith, within))
in_full (suc n) zero within = refl
in_full (suc n) (suc v) within = in_full n v (omega (arith, within))

filter_whole : (passes : ℕ → Bool) (xs : List ℕ) → ((i : ℕ) → i < length xs → passes (slice_index xs i) ≡ true) → filter passes xs ≡ xs
filter_whole passes [] all = refl
filter_whole passes (x ∷ xs) all =
    ap (λ b. cond b (x ∷ filter passes xs) (filter passes xs)) (all 0 (omega arith))
    ∙ ap (λ z. x ∷ z) (filter_whole passes xs (λ i l. all (suc i) (omega (arith, l))))

-- the set of all nodes, in order, is the whole list
pub whole_list : (n : ℕ) (list : List ℕ) → ListsEach n list → in_order reading.Forward list (replicate n true) ≡ list
whole_list n list each =
    filter_whole (λ v. has (replicate n true) v) list
    (λ i l. let long = each.long in in_full n (slice_index list i) (each.below i (omega (arith, l, long))))

pub whole_back : (n : ℕ) (list : List ℕ) → ListsEach n list → in_order reading.Backward list (replicate n true) ≡ reverse list
whole_back n list each = ap reverse (whole_list n list each)
