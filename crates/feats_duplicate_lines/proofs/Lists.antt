-- Lists that are appended.
use Rattle.std.proofs.Common.{◌≡◌, ℕ, suc, ◌+◌, ◌-◌, ◌<◌, List, [], ◌∷◌, ◌++◌, length, map, flat_map, drop, take, get_or, arith, ap, sym, ◌∙◌, add-one, drop-cons, append_assoc}
use Rattle.std.proofs.lemmas.List.{append-nil, length-drop, take_all}

-- the rest of a list from an item on
cut_at : {X : Type 0} (xs : List X) (i : ℕ) (x : X) → i < length xs → x ≡ get_or xs i x → drop i xs ≡ x ∷ drop (i + 1) xs
cut_at xs i x within is = rw (add-one) (drop-cons xs i x within ∙ ap (λ y. y ∷ drop (suc i) xs) (sym is))

-- the first item, and all those after it
pub cut_first : {X : Type 0} (xs : List X) (x : X) → 0 < length xs → x ≡ get_or xs 0 x → xs ≡ x ∷ take (length xs - 1) (drop 1 xs)
cut_first xs x within is = cut_at xs 0 x within is ∙ ap (λ ys. x ∷ ys) (sym (take_all (length xs - 1) (drop 1 xs) (omega (arith, length-drop 1 xs))))

-- one more item, and the items appended for it
pub flat_more : {X Y Z : Type 0} (g : X → Y) (f : Y → List Z) (xs : List X) (i : ℕ) (x : X) (all so_far new : List Z) → i < length xs → x ≡ get_or xs i x
    → all ≡ so_far ++ flat_map f (map g (drop i xs)) → new ≡ so_far ++ f (g x) → all ≡ new ++ flat_map f (map g (drop (i + 1) xs))
flat_more g f xs i x all so_far new within is so grown =
    let rest = flat_map f (map g (drop (i + 1) xs)) in
    so ∙ ap (λ ys. so_far ++ flat_map f (map g ys)) (cut_at xs i x within is)
    ∙ sym (append_assoc so_far (f (g x)) rest)
    ∙ ap (λ z. z ++ rest) (sym grown)

-- the appended list is empty
pub nothing : {X : Type 0} (xs lines : List X) → [] ≡ lines → xs ≡ xs ++ lines
nothing xs lines none = sym (append-nil xs) ∙ ap (λ z. xs ++ z) none

-- six texts, one after the other
pub joined_six : (n a v b l c t0 t1 t2 t3 t4 t5 : List ℕ) → t0 ≡ n → t1 ≡ t0 ++ a → t2 ≡ t1 ++ v → t3 ≡ t2 ++ b → t4 ≡ t3 ++ l → t5 ≡ t4 ++ c → t5 ≡ n ++ (a ++ (v ++ (b ++ (l ++ c))))
joined_six n a v b l c t0 t1 t2 t3 t4 t5 e0 e1 e2 e3 e4 e5 =
    e5 ∙ ap (λ t. t ++ c) (e4 ∙ ap (λ t. t ++ l) (e3 ∙ ap (λ t. t ++ b) (e2 ∙ ap (λ t. t ++ v) (e1 ∙ ap (λ t. t ++ a) e0))))
    ∙ append_assoc (((n ++ a) ++ v) ++ b) l c
    ∙ append_assoc ((n ++ a) ++ v) b (l ++ c)
    ∙ append_assoc (n ++ a) v (b ++ (l ++ c))
    ∙ append_assoc n a (v ++ (b ++ (l ++ c)))
