-- Texts that are pushed one after the other.
use Rattle.std.proofs.Common.{◌≡◌, ◌∙◌, ap, ℕ, List, ◌++◌, append_assoc}
use Rattle.std.specs.Prelude.{OnOk, Result, Ok, Err}

-- what was pushed before the last text, and then the last text
before : (new old start p q : List ℕ) → new ≡ old ++ q → old ≡ start ++ p → new ≡ start ++ (p ++ q)
before new old start p q last is = last ∙ ap (λ z. z ++ q) is ∙ append_assoc start p q

pub grown_three : (t a b c t1 t2 t3 : List ℕ) → t1 ≡ t ++ a → t2 ≡ t1 ++ b → t3 ≡ t2 ++ c → t3 ≡ t ++ (a ++ (b ++ c))
grown_three t a b c t1 t2 t3 first second third = before t3 t1 t a (b ++ c) (before t3 t2 t1 b c third second) first

pub grown_four : (t a b c d t1 t2 t3 t4 : List ℕ) → t1 ≡ t ++ a → t2 ≡ t1 ++ b → t3 ≡ t2 ++ c → t4 ≡ t3 ++ d → t4 ≡ t ++ (a ++ (b ++ (c ++ d)))
grown_four t a b c d t1 t2 t3 t4 first second third fourth = before t4 t1 t a (b ++ (c ++ d)) (grown_three t1 b c d t2 t3 t4 second third fourth) first

pub pushed_four : {V E : Type 0} (r : Result V E) (t a b c d t1 t2 t3 t4 : List ℕ) → t1 ≡ t ++ a → t2 ≡ t1 ++ b → t3 ≡ t2 ++ c → OnOk r (t4 ≡ t3 ++ d) → OnOk r (t4 ≡ t ++ (a ++ (b ++ (c ++ d))))
pushed_four (Ok v) t a b c d t1 t2 t3 t4 first second third fourth = grown_four t a b c d t1 t2 t3 t4 first second third fourth
pushed_four (Err e) t a b c d t1 t2 t3 t4 first second third fourth = tt
