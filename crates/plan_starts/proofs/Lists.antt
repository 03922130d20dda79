-- Repeated lists.
use Rattle.std.proofs.Common.{◌≡◌, ℕ, zero, suc, ◌+◌, List, ◌++◌, Bool, ap, sym, ◌∙◌, arith, append_assoc}
use Rattle.std.proofs.lemmas.List.{append-nil}
use Rattle.plan_starts.specs.Starts.{times}

times_more : (n : ℕ) (xs : List Bool) → times (suc n) xs ≡ times n xs ++ xs
times_more zero xs = append-nil xs
times_more (suc n) xs = ap (λ z. xs ++ z) (times_more n xs) ∙ sym (append_assoc xs (times n xs) xs)

-- one more time
pub joined_more : (n : ℕ) (xs host r0 r1 : List Bool) → r0 ≡ host ++ times n xs → r1 ≡ r0 ++ xs → r1 ≡ host ++ times (n + 1) xs
joined_more n xs host r0 r1 is pushed =
    let next : suc n ≡ n + 1 = omega arith in
    pushed ∙ ap (λ z. z ++ xs) is ∙ append_assoc host (times n xs) xs ∙ ap (λ z. host ++ z) (sym (times_more n xs)) ∙ ap (λ m. host ++ times m xs) next
