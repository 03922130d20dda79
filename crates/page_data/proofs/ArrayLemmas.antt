-- Lines without further line feeds are the elements of the array.
use Rattle.std.proofs.Common.{◌≡◌, ◌∙◌, ap, refl, ℕ, List, [], ◌∷◌, ◌++◌, Bool, true, false, cond, append_assoc, flat_map}
use Rattle.std.specs.Prelude.{◌||◌, ◌==◌, codes}
use Rattle.std.specs.List.{list_any}
use Rattle.page_data.specs.Arrays.{array_of, array_of_lines, has_feed, line_of, listed, separated}

left_false : (x y : Bool) → (x || y) ≡ false → x ≡ false
left_false true y h = h
left_false false y h = refl

right_false : (x y : Bool) → (x || y) ≡ false → y ≡ false
right_false true y h = absurd (let bad : true ≡ false = h in cc)
right_false false y h = h

kept : (b : ℕ) (bs : List ℕ) → (b == 10) ≡ false → separated (b ∷ bs) ≡ b ∷ separated bs
kept b [] h = refl
kept b (c ∷ cs) h = ap (λ t. cond t (44 ∷ 10 ∷ []) (b ∷ []) ++ separated (c ∷ cs)) h

text_kept : (text rest : List ℕ) → has_feed text ≡ false → separated (text ++ rest) ≡ text ++ separated rest
text_kept [] rest h = refl
text_kept (b ∷ bs) rest h =
    kept b (bs ++ rest) (left_false (b == 10) (has_feed bs) h) ∙ ap (λ t. b ∷ t) (text_kept bs rest (right_false (b == 10) (has_feed bs) h))

line_kept : (text rest : List ℕ) → has_feed text ≡ false → separated (line_of text ++ rest) ≡ text ++ separated (10 ∷ rest)
line_kept text rest h = ap separated (append_assoc text (10 ∷ []) rest) ∙ text_kept text (10 ∷ rest) h

-- a comma is before a line feed that another line follows
feed_separated : (text rest : List ℕ) → separated (10 ∷ (line_of text ++ rest)) ≡ 44 ∷ 10 ∷ separated (line_of text ++ rest)
feed_separated [] rest = refl
feed_separated (b ∷ bs) rest = refl

lines_listed : (elements : List (List ℕ)) → list_any has_feed elements ≡ false → separated (flat_map line_of elements) ≡ listed elements
lines_listed [] h = refl
lines_listed (e ∷ []) h = line_kept e [] (left_false (has_feed e) false h)
lines_listed (e ∷ f ∷ fs) h =
    line_kept e (flat_map line_of (f ∷ fs)) (left_false (has_feed e) (list_any has_feed (f ∷ fs)) h)
    ∙ ap (λ t. e ++ t) (feed_separated f (flat_map line_of fs) ∙ ap (λ t. 44 ∷ 10 ∷ t) (lines_listed (f ∷ fs) (right_false (has_feed e) (list_any has_feed (f ∷ fs)) h)))

pub array_listed : (elements : List (List ℕ)) (lines : List ℕ) → list_any has_feed elements ≡ false → lines ≡ flat_map line_of elements
    → array_of_lines lines ≡ array_of elements
array_listed elements lines h is = ap array_of_lines is ∙ ap (λ t. codes "[\n" ++ (t ++ codes "]")) (lines_listed elements h)
