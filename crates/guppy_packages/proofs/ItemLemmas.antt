-- The cuts of an item's text.
use Rattle.std.proofs.Common.{◌≡◌, ◌≢◌, ℕ, ◌+◌, ◌-◌, ◌<◌, List, [], ◌∷◌, ◌++◌, Bool, true, false, cond, Option, Some, None, is_some, get_or, length, take, drop, refl, ap, subst, sym, ◌∙◌, arith}
use Rattle.std.specs.Prelude.{nat_eq, nat_lt, codes, position}
use Rattle.std.specs.List.{list_any, position_or_len, ends_with, starts_with, before_first, after_first}
use Rattle.std.specs.Cmp.Lexicographic.{bytes_decides}
use Rattle.std.proofs.lemmas.Bool.{eqb-true}
use Rattle.std.proofs.lemmas.Bool.Decides.{nat_tests}
use Rattle.std.proofs.lemmas.List.{take-append-drop}
use Rattle.std.proofs.lemmas.List.Sums.{passes_at_first}
use Rattle.guppy_packages.proofs.Lists.{is_some-position}
use Rattle.guppy_packages.specs.Items.{Item, item_of, cut_item, plain_item, slash_item, optional_item, feature_item, is_slash}
use Rattle.guppy_packages.specs.Rows.{Text}
use Rattle.guppy_packages.specs.inner.Slashes.{parts_of}

-- the place of the first slash: it is within the text
first_place : (n m at : ℕ) → Some at ≡ cond (nat_lt n m) (Some n) None → (at < m) × (at ≡ n)
first_place n m at h = go (nat_lt n m) refl h
  where
    go : (b : Bool) → nat_lt n m ≡ b → Some at ≡ cond {A = Option ℕ} b (Some n) None → (at < m) × (at ≡ n)
    go true lt h =
        let is : at ≡ n = cc h in
        (grind (arith, nat_tests), is)
    go false lt h = absurd (cc h)

pub slash_found : (text : Text) (at : ℕ) → Some at ≡ position is_slash text → (at < length text) × (at ≡ position_or_len is_slash text)
slash_found text at h = first_place (position_or_len is_slash text) (length text) at h

-- a slash is an ASCII character
pub slash_is_ascii : (text : Text) (at : ℕ) → Some at ≡ position is_slash text → get_or text at 0 < 128
slash_is_ascii text at h =
    let found = slash_found text at h in
    let passes : is_slash (get_or text at 0) ≡ true = subst (λ k. is_slash (get_or text k 0) ≡ true) (sym found.1) (passes_at_first is_slash text 0 (subst (λ k. k < length text) found.1 found.0)) in
    let is = eqb-true (get_or text at 0) 47 passes in
    omega arith

-- the cut of a text: there is a slash, or none
pub cut_there : (text : Text) (at : ℕ) → Some at ≡ position is_slash text → Some (take at text, drop (at + 1) text) ≡ parts_of text
cut_there text at h =
    let found = slash_found text at h in
    let any : list_any is_slash text ≡ true = sym (is_some-position is_slash text) ∙ ap is_some (sym h) in
    let parts : (take at text, drop (at + 1) text) ≡ (before_first is_slash text, after_first is_slash text) = ap {A = ℕ} {B = Text × Text} (λ k. (take k text, drop (k + 1) text)) found.1 in
    rw any (ap Some parts)

pub cut_nowhere : (text : Text) → None ≡ position is_slash text → None ≡ parts_of text
cut_nowhere text h =
    let any : list_any is_slash text ≡ false = sym (is_some-position is_slash text) ∙ ap is_some (sym h) in
    rw any

false_of : (b : Bool) → (b ≡ true → ⊥) → b ≡ false
false_of true h = absurd (h refl)
false_of false h = refl

-- a left part with no mark
pub unmarked : (left right : Text) → ((front : List ℕ) → left ≢ front ++ (63 ∷ [])) → cut_item left right ≡ slash_item left right false
unmarked left right h = rw (plain)
  where
    plain : ends_with nat_eq left (codes "?") ≡ false
    plain = false_of _ (λ e. h (take (length left - 1) left) (sym (ap (λ l. take (length left - 1) left ++ l) ((bytes_decides (63 ∷ []) (drop (length left - 1) left)).0 e) ∙ take-append-drop (length left - 1) left)))

pub item_of-plain : (text : Text) → None ≡ parts_of text → item_of text ≡ plain_item text
item_of-plain text h = go (list_any is_slash text) h
  where
    go : (b : Bool) → None ≡ cond {A = Option (Text × Text)} b (Some (before_first is_slash text, after_first is_slash text)) None → cond b (cut_item (before_first is_slash text) (after_first is_slash text)) (plain_item text) ≡ plain_item text
    go true h = absurd (cc h)
    go false h = refl

pub item_of-cut : (text left right : Text) → Some (left, right) ≡ parts_of text → item_of text ≡ cut_item left right
item_of-cut text left right h = go (list_any is_slash text) h
  where
    go : (b : Bool) → Some (left, right) ≡ cond {A = Option (Text × Text)} b (Some (before_first is_slash text, after_first is_slash text)) None → cond b (cut_item (before_first is_slash text) (after_first is_slash text)) (plain_item text) ≡ cut_item left right
    go true h =
        let parts : (left, right) ≡ (before_first is_slash text, after_first is_slash text) = cc h in
        sym (ap {A = Text × Text} {B = Item} (λ p. cut_item p.0 p.1) parts)
    go false h = absurd (cc h)

-- a text with the mark of an optional dependency, and one without
pub marked : (text rest : Text) → text ≡ 100 ∷ 101 ∷ 112 ∷ 58 ∷ rest → plain_item text ≡ optional_item rest
marked text rest h = ap plain_item h

pub unmarked_text : (text : Text) → ((rest : List ℕ) → text ≢ 100 ∷ 101 ∷ 112 ∷ 58 ∷ rest) → plain_item text ≡ feature_item text
unmarked_text text h = rw (plain)
  where
    plain : starts_with nat_eq text (codes "dep:") ≡ false
    plain = false_of _ (λ e. h (drop 4 text) (sym (ap (λ l. l ++ drop 4 text) ((bytes_decides (codes "dep:") (take 4 text)).0 e) ∙ take-append-drop 4 text)))
