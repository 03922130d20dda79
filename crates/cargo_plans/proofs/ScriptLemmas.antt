-- Notes for a package: the first one stays.
use Rattle.std.proofs.Common.{◌≡◌, ◌∙◌, ap, sym, refl, ℕ, ◌+◌, ◌<◌, Bool, true, false, ◌&&◌, ◌||◌, List, [], ◌∷◌, ◌++◌, Option, Some, None, if◌then◌else◌, map, take, length, get_or, arith}
use Rattle.std.specs.List.{list_any}
use Rattle.std.specs.Option.{option_or}
use Rattle.std.proofs.lemmas.List.{map-append, length-map, length-take-le, take_more}
use Rattle.std.proofs.lemmas.List.Folds.{list_any-append}
use Rattle.plan_starts.specs.Lists.{first_from}

pub or_none : (x : Option ℕ) → x ≡ option_or x None
or_none None = refl
or_none (Some n) = refl

or_assoc : (x y z : Option ℕ) → option_or (option_or x y) z ≡ option_or x (option_or y z)
or_assoc None y z = refl
or_assoc (Some x) y z = refl

-- nothing is noted
pub not_noted : (x : Option ℕ) (n : ℕ) (b : Bool) → b ≡ false → x ≡ option_or x (if b then Some n else None)
not_noted x n b e = or_none x ∙ ap (λ (b : Bool). option_or x (if b then Some n else None)) (sym e)

pub and_no : (a b : Bool) → b ≡ false → (a && b) ≡ false
and_no false b e = refl
and_no true b e = e

-- the same is noted by one test or another
pub noted_by_either : (x : Option ℕ) (n : ℕ) (a b : Bool) → option_or (option_or x (if a then Some n else None)) (if b then Some n else None) ≡ option_or x (if a || b then Some n else None)
noted_by_either None n false b = refl
noted_by_either None n true b = refl
noted_by_either (Some x) n a b = refl

or_false : (b : Bool) → (b || false) ≡ b
or_false true = refl
or_false false = refl

seen : {X : Type 0} (xs : List X) (i : ℕ) (x : X) → i < length xs → x ≡ get_or xs i x → take (i + 1) xs ≡ take i xs ++ x ∷ []
seen xs i x within is = take_more xs i x within ∙ ap (λ y. take i xs ++ y ∷ []) (sym is)

any_more : {X Y : Type 0} (w : Y → Bool) (f : X → Y) (xs : List X) (i : ℕ) (x : X) → i < length xs → x ≡ get_or xs i x → list_any w (map f (take (i + 1) xs)) ≡ (list_any w (map f (take i xs)) || w (f x))
any_more w f xs i x within is =
    ap (λ ys. list_any w (map f ys)) (seen xs i x within is)
    ∙ ap (list_any w) (map-append f (take i xs) (x ∷ []))
    ∙ list_any-append w (map f (take i xs)) (f x ∷ [])
    ∙ ap (λ b. list_any w (map f (take i xs)) || b) (or_false (w (f x)))

-- one more declaration
pub noted_more : {X Y : Type 0} (w : Y → Bool) (f : X → Y) (xs : List X) (i : ℕ) (x : X) (n : ℕ) (a mid new : Option ℕ) (b : Bool) → i < length xs → x ≡ get_or xs i x → b ≡ w (f x)
    → new ≡ option_or mid (if b then Some n else None) → mid ≡ option_or a (if list_any w (map f (take i xs)) then Some n else None)
    → new ≡ option_or a (if list_any w (map f (take (i + 1) xs)) then Some n else None)
noted_more w f xs i x n a mid new b within is counts made so =
    made ∙ ap (λ (b : Bool). option_or mid (if b then Some n else None)) counts ∙ ap (λ (o : Option ℕ). option_or o (if w (f x) then Some n else None)) so
    ∙ noted_by_either a n (list_any w (map f (take i xs))) (w (f x))
    ∙ ap (λ (b : Bool). option_or a (if b then Some n else None)) (sym (any_more w f xs i x within is))

first_push : {Y : Type 0} (f : ℕ → Y → Option ℕ) (k : ℕ) (ys : List Y) (y : Y) → first_from f k (ys ++ y ∷ []) ≡ option_or (first_from f k ys) (f (k + length ys) y)
first_push f k [] y =
    let at : k ≡ k + 0 = omega arith in
    sym (or_none (f k y)) ∙ ap (λ (n : ℕ). f n y) at
first_push f k (z ∷ zs) y =
    let at : k + 1 + length zs ≡ k + length (z ∷ zs) = omega arith in
    ap (λ (o : Option ℕ). option_or (f k z) o) (first_push f (k + 1) zs y ∙ ap (λ (n : ℕ). option_or (first_from f (k + 1) zs) (f n y)) at)
    ∙ sym (or_assoc (f k z) (first_from f (k + 1) zs) (f (k + length (z ∷ zs)) y))

-- one more package
pub first_more : {X Y : Type 0} (f : ℕ → Y → Option ℕ) (g : X → Y) (xs : List X) (i : ℕ) (x : X) (mid new : Option ℕ) → i < length xs → x ≡ get_or xs i x
    → new ≡ option_or mid (f i (g x)) → mid ≡ first_from f 0 (map g (take i xs)) → new ≡ first_from f 0 (map g (take (i + 1) xs))
first_more f g xs i x mid new within is made so =
    let count : length (map g (take i xs)) ≡ i = length-map (take i xs) g ∙ length-take-le i xs (omega (arith, within)) in
    let at : i ≡ 0 + length (map g (take i xs)) = omega (arith, count) in
    made ∙ ap (λ (o : Option ℕ). option_or o (f i (g x))) so ∙ ap (λ (n : ℕ). option_or (first_from f 0 (map g (take i xs))) (f n (g x))) at
    ∙ sym (first_push f 0 (map g (take i xs)) (g x))
    ∙ ap (first_from f 0) (sym (map-append g (take i xs) (x ∷ []))) ∙ ap (λ ys. first_from f 0 (map g ys)) (sym (seen xs i x within is))
