-- Texts that are in a list, or more than once.
use Rattle.std.proofs.Common.{◌≡◌, ◌∙◌, sym, ap, refl, ℕ, zero, suc, ◌+◌, ◌<◌, List, [], ◌∷◌, ◌++◌, map, length, take, get_or, Bool, true, false, cond, nat_lt, not, filter, arith, String}
use Rattle.std.specs.Prelude.{◌||◌}
use Rattle.std.specs.String.{string_bytes}
use Rattle.std.specs.List.{list_any}
use Rattle.std.specs.Ordering.{is_eq}
use Rattle.std.specs.Str.{bytes_eq}
use Rattle.std.proofs.lemmas.List.{take_more, map-append, length-append}
use Rattle.std.proofs.lemmas.List.Elements.{filter-append}
use Rattle.std.proofs.lemmas.List.Folds.{list_any-append}
use Rattle.std.proofs.lemmas.Map.Text.{is_eq-slice_cmp}
use Rattle.std.proofs.lemmas.Slice.Eq.{bytes_eq-Decides}
use Rattle.std.specs.declared.alloc.Global.{Global}
use Rattle.cargo_workspaces.specs.Workspaces.{Text, text_cmp}
use Rattle.feats_lines.specs.Lines.{is_repeated}

both : (a b : Bool) → (a ≡ true → b ≡ true) → (b ≡ true → a ≡ true) → a ≡ b
both true b f g = sym (f refl)
both false true f g = g refl
both false false f g = refl

bytes_eq-flip : (a b : Text) → bytes_eq a b ≡ bytes_eq b a
bytes_eq-flip a b = both (bytes_eq a b) (bytes_eq b a) (λ h. (bytes_eq-Decides b a).1 (sym ((bytes_eq-Decides a b).0 h))) (λ h. (bytes_eq-Decides a b).1 (sym ((bytes_eq-Decides b a).0 h)))

or_flip : (a b : Bool) → cond a true b ≡ (b || a)
or_flip true true = refl
or_flip true false = refl
or_flip false true = refl
or_flip false false = refl

or_none : (a : Bool) → (a || false) ≡ a
or_none true = refl
or_none false = refl

-- one more text
pub any_more : (names : List Text) (x q : Text) (old new : Bool) → new ≡ cond (is_eq (text_cmp x q)) true old → old ≡ list_any (bytes_eq q) names → new ≡ list_any (bytes_eq q) (names ++ x ∷ [])
any_more names x q old new grown was =
    let one : list_any (bytes_eq q) (x ∷ []) ≡ is_eq (text_cmp x q) = or_none (bytes_eq q x) ∙ bytes_eq-flip q x ∙ sym (is_eq-slice_cmp x q) in
    grown ∙ or_flip (is_eq (text_cmp x q)) old ∙ rw (list_any-append (bytes_eq q) names (x ∷ []), one, was) refl

count_of : Text → List Text → ℕ
count_of q names = length (filter (bytes_eq q) names)

positive : (n : ℕ) → nat_lt 0 (suc n) ≡ true
positive n = grind arith

-- some element passes exactly if their number isn't 0
any_counts : {X : Type 0} (p : X → Bool) (xs : List X) → list_any p xs ≡ nat_lt 0 (length (filter p xs))
any_counts p [] = refl
any_counts p (x ∷ xs) = go (p x) (any_counts p xs)
  where
    go : (b : Bool) → list_any p xs ≡ nat_lt 0 (length (filter p xs)) → (b || list_any p xs) ≡ nat_lt 0 (length (cond b (x ∷ filter p xs) (filter p xs)))
    go true e = sym (positive (length (filter p xs)))
    go false e = e

count_one : (b : Bool) (x : Text) → length (cond b (x ∷ []) []) ≡ cond b 1 0
count_one true x = refl
count_one false x = refl

count_more : (names : List Text) (x q : Text) → length (filter (bytes_eq q) (names ++ x ∷ [])) ≡ length (filter (bytes_eq q) names) + cond (bytes_eq q x) 1 0
count_more names x q =
    ap length (filter-append (bytes_eq q) names (x ∷ []))
    ∙ length-append (filter (bytes_eq q) names) (cond (bytes_eq q x) (x ∷ []) [])
    ∙ ap (λ n. length (filter (bytes_eq q) names) + n) (count_one (bytes_eq q x) x)

above_one : (n : ℕ) → nat_lt 0 n ≡ true → nat_lt 1 (n + 1) ≡ true
above_one zero h = cc
above_one (suc n) h = grind arith

not_above : (n : ℕ) → nat_lt 0 n ≡ false → nat_lt 1 n ≡ nat_lt 1 (n + 1)
not_above zero h = refl
not_above (suc n) h = absurd (let bad : true ≡ false = sym (positive n) ∙ h in cc)

-- one more text, which the list has: it is repeated
pub repeated_more : (names : List Text) (x q : Text) (old new : Bool) → list_any (bytes_eq x) names ≡ true → new ≡ cond (is_eq (text_cmp x q)) true old → old ≡ is_repeated names q → new ≡ is_repeated (names ++ x ∷ []) q
repeated_more names x q old new there grown was =
    grown ∙ ap (λ b. cond b true old) (is_eq-slice_cmp x q ∙ bytes_eq-flip x q)
    ∙ go (bytes_eq q x) refl
    ∙ ap (nat_lt 1) (sym (count_more names x q))
  where
    n : ℕ
    n = length (filter (bytes_eq q) names)

    same : (n : ℕ) → n + 0 ≡ n
    same n = omega arith

    go : (b : Bool) → bytes_eq q x ≡ b → cond b true old ≡ nat_lt 1 (length (filter (bytes_eq q) names) + cond b 1 0)
    go true e =
        let is : q ≡ x = (bytes_eq-Decides q x).0 e in
        let some : nat_lt 0 (length (filter (bytes_eq q) names)) ≡ true = sym (any_counts (bytes_eq q) names) ∙ ap (λ t. list_any (bytes_eq t) names) is ∙ there in
        sym (above_one (length (filter (bytes_eq q) names)) some)
    go false e = was ∙ ap (nat_lt 1) (sym (same (length (filter (bytes_eq q) names))))

-- one more text, which the list lacks: the same are repeated
pub repeated_same : (names : List Text) (x q : Text) (old : Bool) → list_any (bytes_eq x) names ≡ false → old ≡ is_repeated names q → old ≡ is_repeated (names ++ x ∷ []) q
repeated_same names x q old none was =
    was ∙ go (bytes_eq q x) refl ∙ ap (nat_lt 1) (sym (count_more names x q))
  where
    same : (n : ℕ) → n + 0 ≡ n
    same n = omega arith

    go : (b : Bool) → bytes_eq q x ≡ b → nat_lt 1 (length (filter (bytes_eq q) names)) ≡ nat_lt 1 (length (filter (bytes_eq q) names) + cond b 1 0)
    go true e =
        let is : q ≡ x = (bytes_eq-Decides q x).0 e in
        let no : nat_lt 0 (length (filter (bytes_eq q) names)) ≡ false = sym (any_counts (bytes_eq q) names) ∙ ap (λ t. list_any (bytes_eq t) names) is ∙ none in
        not_above (length (filter (bytes_eq q) names)) no
    go false e = ap (nat_lt 1) (sym (same (length (filter (bytes_eq q) names))))

-- the names up to the next one
pub names_more : (names : List (String Global)) (i : ℕ) (x : String Global) (t : Text) → i < length names → x ≡ get_or names i x → t ≡ string_bytes x → map string_bytes (take i names) ++ t ∷ [] ≡ map string_bytes (take (i + 1) names)
names_more names i x t within is text =
    sym (ap (map string_bytes) (take_more names i x within) ∙ map-append string_bytes (take i names) (get_or names i x ∷ [])
    ∙ ap (λ y. map string_bytes (take i names) ++ y ∷ []) (sym (text ∙ ap string_bytes is)))

-- the names of the packages up to the next one
pub described_more : {X Y : Type 0} (f : Y → Text) (g : X → Y) (xs : List X) (i : ℕ) (x : X) → i < length xs → x ≡ get_or xs i x → map f (map g (take i xs)) ++ f (g x) ∷ [] ≡ map f (map g (take (i + 1) xs))
described_more f g xs i x within is =
    sym (ap (λ ys. map f (map g ys)) (take_more xs i x within) ∙ ap (map f) (map-append g (take i xs) (get_or xs i x ∷ [])) ∙ map-append f (map g (take i xs)) (g (get_or xs i x) ∷ [])
    ∙ ap (λ y. map f (map g (take i xs)) ++ f (g y) ∷ []) (sym is))

-- a text that isn't new was there
pub was_there : (new there : Bool) → new ≡ not there → new ≡ false → there ≡ true
was_there new true h k = refl
was_there new false h k = absurd (let bad : true ≡ false = sym h ∙ k in cc)

pub was_not_there : (new there : Bool) → new ≡ not there → new ≡ true → there ≡ false
was_not_there new false h k = refl
was_not_there new true h k = absurd (let bad : false ≡ true = sym h ∙ k in cc)
