-- A text is plain in which plain texts are in place of the control characters.
use Rattle.std.proofs.Common.{◌≡◌, ap, refl, subst, ℕ, List, [], ◌∷◌, ◌++◌, Bool, true, false, cond, nat_lt, ◌<◌, ◌/◌, ◌%◌, arith}
use Rattle.std.specs.Prelude.{◌&&◌, ◌||◌, ◌==◌, not, codes}
use Rattle.std.specs.Char.{digit_char}
use Rattle.std.specs.Int.{is_in_range}
use Rattle.std.proofs.lemmas.List.{append-nil}
use Rattle.shown_texts.specs.Controls.{is_control, is_control_pair, replaced, replaced_byte}
use Rattle.shown_texts.specs.Escapes.{escape, json_escape, two_digits}
use Rattle.shown_texts.specs.Plain.{begins_pair, is_plain}
use Rattle.shown_texts.specs.Shown.{but_line_feeds}

-- printable ASCII
abbrev pub is_print : ℕ → Bool
is_print b = is_in_range 32 126 b

-- what is in place of a character leaves a plain text plain, and is no second byte of a character
record IsSafe (part : List ℕ) : Type 0 where
  pub plain : (rest : List ℕ) → is_plain rest ≡ true → is_plain (part ++ rest) ≡ true
  pub first : (b : ℕ) (rest : List ℕ) → begins_pair b (part ++ rest) ≡ false

not_control : (b : ℕ) → is_print b ≡ true → is_control b ≡ false
not_control b h = grind (arith, h)

no_lead : (b : ℕ) → is_print b ≡ true → (b == 194) ≡ false
no_lead b h = grind (arith, h)

no_pair_begins : (b : ℕ) (bs : List ℕ) → (b == 194) ≡ false → begins_pair b bs ≡ false
no_pair_begins b [] h = refl
no_pair_begins b (c ∷ cs) h = ap (λ t. t && is_in_range 128 159 c) h

joins : (k t p m : Bool) → k ≡ false → p ≡ false → m ≡ true → ((not k || t) && (not p && m)) ≡ true
joins true t p m h one more = absurd (let bad : true ≡ false = h in cc)
joins false t true m h one more = absurd (let bad : true ≡ false = one in cc)
joins false t false m h one more = more

plain_print : (b : ℕ) (bs : List ℕ) → is_print b ≡ true → is_plain bs ≡ true → is_plain (b ∷ bs) ≡ true
plain_print b bs h e = joins (is_control b) (b == 10) (begins_pair b bs) (is_plain bs) (not_control b h) (no_pair_begins b bs (no_lead b h)) e

abbrev all_print : List ℕ → Bool
all_print [] = true
all_print (b ∷ bs) = is_print b && all_print bs

both_true : (x y : Bool) → x ≡ true → y ≡ true → (x && y) ≡ true
both_true true y h e = e
both_true false y h e = absurd (let bad : false ≡ true = h in cc)

left_true : (x y : Bool) → (x && y) ≡ true → x ≡ true
left_true true y h = refl
left_true false y h = h

right_true : (x y : Bool) → (x && y) ≡ true → y ≡ true
right_true true y h = h
right_true false y h = absurd (let bad : false ≡ true = h in cc)

plain_all : (part rest : List ℕ) → all_print part ≡ true → is_plain rest ≡ true → is_plain (part ++ rest) ≡ true
plain_all [] rest h e = e
plain_all (b ∷ bs) rest h e = plain_print b (bs ++ rest) (left_true (is_print b) (all_print bs) h) (plain_all bs rest (right_true (is_print b) (all_print bs) h) e)

print_digit : (d : ℕ) → d < 16 → is_print (digit_char d) ≡ true
print_digit d h = grind arith

print_high : (c : ℕ) → c < 160 → is_print (digit_char (c / 16)) ≡ true
print_high c h = print_digit (c / 16) (omega (arith, h))

print_low : (c : ℕ) → is_print (digit_char (c % 16)) ≡ true
print_low c = print_digit (c % 16) (omega arith)

no_pair : (b c : ℕ) → is_in_range 128 159 c ≡ false → is_control_pair b c ≡ false
no_pair b c h = go (b == 194)
  where
    go : (t : Bool) → (t && is_in_range 128 159 c) ≡ false
    go true = h
    go false = refl

escape_safe : (c : ℕ) → c < 160 → IsSafe (escape c)
escape_safe c small = record {
  plain = λ rest h. plain_all (escape c) rest (go (nat_lt c 16) refl) h;
  first = λ b rest. no_pair b 92 refl;
}
  where
    go : (t : Bool) → nat_lt c 16 ≡ t → all_print (codes "\\u{" ++ cond t (digit_char c ∷ []) (two_digits c) ++ codes "}") ≡ true
    go true e = both_true (is_print (digit_char c)) true (print_digit c (grind (arith, e))) refl
    go false e = both_true (is_print (digit_char (c / 16))) (is_print (digit_char (c % 16)) && true) (print_high c small) (both_true (is_print (digit_char (c % 16))) true (print_low c) refl)

json_safe : (c : ℕ) → c < 160 → IsSafe (json_escape c)
json_safe c small =
    let digits : all_print (two_digits c) ≡ true = both_true (is_print (digit_char (c / 16))) (is_print (digit_char (c % 16)) && true) (print_high c small) (both_true (is_print (digit_char (c % 16))) true (print_low c) refl) in
    record { plain = λ rest h. plain_all (json_escape c) rest digits h; first = λ b rest. no_pair b 92 refl }

-- the same, if a line feed stays
feeds_safe : (written : ℕ → List ℕ) → ((c : ℕ) → c < 160 → IsSafe (written c)) → (c : ℕ) → c < 160 → IsSafe (but_line_feeds written c)
feeds_safe written safe c small = go (c == 10)
  where
    feed : (rest : List ℕ) → is_plain rest ≡ true → is_plain (10 ∷ rest) ≡ true
    feed [] h = refl
    feed (d ∷ ds) h = h

    go : (t : Bool) → IsSafe (cond t (10 ∷ []) (written c))
    go true = record { plain = feed; first = λ b rest. no_pair b 10 refl }
    go false = safe c small

module _ (written : ℕ → List ℕ) (safe : (c : ℕ) → c < 160 → IsSafe (written c)) where
  control_small : (b : ℕ) → is_control b ≡ true → b < 160
  control_small b h = grind (arith, h)

  second_small : (b c : ℕ) → is_control_pair b c ≡ true → c < 160
  second_small b c h = grind (arith, h)

  byte_first : (a b : ℕ) (rest : List ℕ) → is_control_pair a b ≡ false → begins_pair a (replaced_byte written b ++ rest) ≡ false
  byte_first a b rest h = go (is_control b) refl
    where
      go : (t : Bool) → is_control b ≡ t → begins_pair a (cond t (written b) (b ∷ []) ++ rest) ≡ false
      go true e = (safe b (control_small b e)).first a rest
      go false e = h

  byte_plain : (b : ℕ) (rest : List ℕ) → begins_pair b rest ≡ false → is_plain rest ≡ true → is_plain (replaced_byte written b ++ rest) ≡ true
  byte_plain b rest first h = go (is_control b) refl
    where
      go : (t : Bool) → is_control b ≡ t → is_plain (cond t (written b) (b ∷ []) ++ rest) ≡ true
      go true e = (safe b (control_small b e)).plain rest h
      go false e = joins (is_control b) (b == 10) (begins_pair b rest) (is_plain rest) e first h

  replaced_first : (a b : ℕ) (bs : List ℕ) → is_control_pair a b ≡ false → begins_pair a (replaced written (b ∷ bs)) ≡ false
  replaced_first a b [] h = subst (λ part. begins_pair a part ≡ false) (append-nil (replaced_byte written b)) (byte_first a b [] h)
  replaced_first a b (c ∷ cs) h = go (is_control_pair b c) refl
    where
      go : (t : Bool) → is_control_pair b c ≡ t → begins_pair a (cond t (written c ++ replaced written cs) (replaced_byte written b ++ replaced written (c ∷ cs))) ≡ false
      go true e = (safe c (second_small b c e)).first a (replaced written cs)
      go false e = byte_first a b (replaced written (c ∷ cs)) h

  pair_plain : (b c : ℕ) (cs : List ℕ) → is_plain (replaced written cs) ≡ true → is_plain (replaced written (c ∷ cs)) ≡ true → is_plain (replaced written (b ∷ c ∷ cs)) ≡ true
  pair_plain b c cs behind after = go (is_control_pair b c) refl
    where
      go : (t : Bool) → is_control_pair b c ≡ t → is_plain (cond t (written c ++ replaced written cs) (replaced_byte written b ++ replaced written (c ∷ cs))) ≡ true
      go true e = (safe c (second_small b c e)).plain (replaced written cs) behind
      go false e = byte_plain b (replaced written (c ∷ cs)) (replaced_first b c cs e) after

  replaced_plain : (text : List ℕ) → is_plain (replaced written text) ≡ true
  replaced_plain [] = refl
  replaced_plain (b ∷ []) = subst (λ part. is_plain part ≡ true) (append-nil (replaced_byte written b)) (byte_plain b [] refl refl)
  replaced_plain (b ∷ c ∷ cs) = pair_plain b c cs (replaced_plain cs) (replaced_plain (c ∷ cs))

pub text_plain : (text : List ℕ) → is_plain (replaced (but_line_feeds escape) text) ≡ true
text_plain text = replaced_plain (but_line_feeds escape) (feeds_safe escape escape_safe) text

pub json_plain : (json : List ℕ) → is_plain (replaced (but_line_feeds json_escape) json) ≡ true
json_plain json = replaced_plain (but_line_feeds json_escape) (feeds_safe json_escape json_safe) json
