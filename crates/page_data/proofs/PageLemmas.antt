-- In the text of a page no byte is markup.
use Rattle.std.proofs.Common.{◌≡◌, ◌∙◌, ap, refl, ℕ, List, [], ◌∷◌, ◌++◌, Bool, true, false, cond}
use Rattle.std.specs.Prelude.{◌||◌, ◌==◌, codes}
use Rattle.std.specs.List.{list_any}
use Rattle.std.proofs.lemmas.List.Folds.{list_any-append}
use Rattle.page_data.specs.Pages.{is_markup, is_separator, page_safe, safe_byte, separator_escape}

joined : (xs ys : List ℕ) → list_any is_markup xs ≡ false → list_any is_markup ys ≡ false → list_any is_markup (xs ++ ys) ≡ false
joined xs ys h k = list_any-append is_markup xs ys ∙ ap (λ t. t || list_any is_markup ys) h ∙ k

none : (x y z : Bool) → x ≡ false → y ≡ false → z ≡ false → ((x || y || z) || false) ≡ false
none x y z h k l = rw (h, k, l) refl

byte_clean : (b : ℕ) → list_any is_markup (safe_byte b) ≡ false
byte_clean b = go (b == 60) refl (b == 62) refl (b == 38) refl
  where
    go : (x : Bool) → (b == 60) ≡ x → (y : Bool) → (b == 62) ≡ y → (z : Bool) → (b == 38) ≡ z
        → list_any is_markup (cond x (codes "\\u003c") (cond y (codes "\\u003e") (cond z (codes "\\u0026") (b ∷ [])))) ≡ false
    go true h y k z l = refl
    go false h true k z l = refl
    go false h false k true l = refl
    go false h false k false l = none (b == 60) (b == 62) (b == 38) h k l

separator_clean : (c : ℕ) → list_any is_markup (separator_escape c) ≡ false
separator_clean c = go (c == 168)
  where
    go : (x : Bool) → list_any is_markup (cond x (codes "\\u2028") (codes "\\u2029")) ≡ false
    go true = refl
    go false = refl

first_clean : (a b c : ℕ) (rest : List ℕ) → list_any is_markup (page_safe rest) ≡ false → list_any is_markup (page_safe (b ∷ c ∷ rest)) ≡ false
    → list_any is_markup (page_safe (a ∷ b ∷ c ∷ rest)) ≡ false
first_clean a b c rest behind after = go (is_separator a b c)
  where
    go : (x : Bool) → list_any is_markup (cond x (separator_escape c ++ page_safe rest) (safe_byte a ++ page_safe (b ∷ c ∷ rest))) ≡ false
    go true = joined (separator_escape c) (page_safe rest) (separator_clean c) behind
    go false = joined (safe_byte a) (page_safe (b ∷ c ∷ rest)) (byte_clean a) after

pub page_clean : (json : List ℕ) → list_any is_markup (page_safe json) ≡ false
page_clean [] = refl
page_clean (a ∷ []) = byte_clean a
page_clean (a ∷ b ∷ []) = joined (safe_byte a) (safe_byte b) (byte_clean a) (byte_clean b)
page_clean (a ∷ b ∷ c ∷ rest) = first_clean a b c rest (page_clean rest) (page_clean (b ∷ c ∷ rest))
