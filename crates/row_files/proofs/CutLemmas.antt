-- A text is split at its next tab or line feed.
use Rattle.std.proofs.Common.{◌≡◌, ℕ, ◌+◌, ◌<◌, ◌≤◌, ◌++◌, ◌==◌, List, [], ◌∷◌, Bool, true, false, not, cond, if◌then◌else◌, map, filter, length, sym, ap, ◌∙◌, refl, arith, append-nil, append_assoc}
use Rattle.std.proofs.lemmas.Bool.{eqb-true}
use Rattle.std.proofs.lemmas.List.Elements.{All-head, All-tail}
use Rattle.std.proofs.lemmas.List.Splits.{slice_split-cons_no, slice_split_at, slice_split_none, length-slice_split}
use Rattle.std.specs.List.{All, slice_split, onto_first, enumerate_from}
use Rattle.guppy_packages.specs.Rows.{Text}
use Rattle.row_files.specs.Lines.{lines_in, fields_in, is_skipped, kept_lines}
use Rattle.row_files.specs.inner.CutLines.{skips_fields, kept_line}

-- The fields of each line.
abbrev pub cut : Text → List (List Text)
cut text = map fields_in (lines_in text)

-- The lines with fields prepended to the first one.
abbrev pub onto : List Text → List (List Text) → List (List Text)
onto front [] = []
onto front (fields ∷ lines) = (front ++ fields) ∷ lines

-- The lines that aren't skipped; the first line has number `n`.
abbrev pub keep : ℕ → List (List Text) → List (ℕ × List Text)
keep n [] = []
keep n (fields ∷ lines) = kept_line n fields ++ keep (n + 1) lines

-- The byte is neither a tab nor a line feed.
abbrev pub is_plain : ℕ → Type 0
is_plain b = ((b == 9) ≡ false) × ((b == 10) ≡ false)

some_part : (p : ℕ → Bool) (xs : List ℕ) (parts : List (List ℕ)) → slice_split p xs ≡ parts → (part : List ℕ) × (others : List (List ℕ)) × (slice_split p xs ≡ part ∷ others)
some_part p xs [] e = absurd (omega (arith, length-slice_split p xs, ap length e))
some_part p xs (part ∷ others) e = (part, others, e)

-- Bytes that don't split are prepended to the first part.
before_part : (p : ℕ → Bool) (xs ys part : List ℕ) (others : List (List ℕ)) → All (λ x. p x ≡ false) xs → slice_split p ys ≡ part ∷ others → slice_split p (xs ++ ys) ≡ (xs ++ part) ∷ others
before_part p [] ys part others free e = e
before_part p (x ∷ xs) ys part others free e =
    slice_split-cons_no p x (xs ++ ys) (All-head (λ y. p y ≡ false) x xs free) ∙ ap (onto_first x) (before_part p xs ys part others (All-tail (λ y. p y ≡ false) x xs free) e)

module _ (field : List ℕ) (plain : All is_plain field) where
  no_tab : All (λ b. (b == 9) ≡ false) field
  no_tab k d h = (plain k d h).0

  no_feed : All (λ b. (b == 10) ≡ false) field
  no_feed k d h = (plain k d h).1

  -- A field that a tab ends.
  pub tab_after : (rest : List ℕ) → cut (field ++ 9 ∷ rest) ≡ onto (field ∷ []) (cut rest)
  tab_after rest =
      let parts = some_part (λ b. b == 10) rest (lines_in rest) refl in
      let tabbed : lines_in (9 ∷ rest) ≡ (9 ∷ parts.0) ∷ parts.1 = slice_split-cons_no (λ b. b == 10) 9 rest refl ∙ ap (onto_first 9) parts.2 in
      ap (map fields_in) (before_part (λ b. b == 10) field (9 ∷ rest) (9 ∷ parts.0) parts.1 no_feed tabbed)
      ∙ ap (λ fs. fs ∷ map fields_in parts.1) (slice_split_at (λ b. b == 9) field 9 parts.0 no_tab refl)
      ∙ ap (λ ls. onto (field ∷ []) (map fields_in ls)) (sym parts.2)

  -- A field that a line feed ends.
  pub feed_after : (rest : List ℕ) → cut (field ++ 10 ∷ rest) ≡ (field ∷ []) ∷ cut rest
  feed_after rest =
      ap (map fields_in) (slice_split_at (λ b. b == 10) field 10 rest no_feed refl) ∙ ap (λ fs. fs ∷ cut rest) (slice_split_none (λ b. b == 9) field no_tab)

  -- A field that the end of the text ends.
  pub end_after : cut field ≡ (field ∷ []) ∷ []
  end_after = ap (map fields_in) (slice_split_none (λ b. b == 10) field no_feed) ∙ ap (λ fs. fs ∷ []) (slice_split_none (λ b. b == 9) field no_tab)

-- Whether a line is skipped depends only on its fields.
same_skip_by : (b : ℕ) (fields : List Text) (tab : Bool) → 0 < length fields → (b == 9) ≡ tab → skips_fields (cond tab ([] ∷ fields) (onto_first b fields)) ≡ (b == 35)
same_skip_by b [] tab h e = absurd (omega arith)
same_skip_by b (field ∷ fields) true h e = rw (eqb-true b 9 e) refl
same_skip_by b (field ∷ fields) false h e = refl

same_skip : (line : Text) → skips_fields (fields_in line) ≡ is_skipped line
same_skip [] = refl
same_skip (b ∷ line) = same_skip_by b (fields_in line) (b == 9) (omega (arith, length-slice_split (λ x. x == 9) line)) refl

-- The line as its number and its fields, unless it is skipped.
abbrev line_unless : Bool → ℕ → List Text → List (ℕ × List Text)
line_unless skips n fields = cond skips [] ((n, fields) ∷ [])

one_kept : (skips : Bool) (n : ℕ) (line : Text) (after : List (ℕ × Text))
    → line_unless skips n (fields_in line) ++ map (λ l. (l.0, fields_in l.1)) after ≡ map (λ l. (l.0, fields_in l.1)) (cond (not skips) ((n, line) ∷ after) after)
one_kept true n line after = refl
one_kept false n line after = refl

-- Splitting all lines at once has the same result.
keep_all : (n : ℕ) (lines : List Text) → keep n (map fields_in lines) ≡ kept_lines n lines
keep_all n [] = refl
keep_all n (line ∷ lines) =
    ap (λ b. line_unless b n (fields_in line) ++ keep (n + 1) (map fields_in lines)) (same_skip line)
    ∙ ap (λ ls. line_unless (is_skipped line) n (fields_in line) ++ ls) (keep_all (n + 1) lines)
    ∙ one_kept (is_skipped line) n line (filter (λ l. not (is_skipped l.1)) (enumerate_from (n + 1) lines))

onto-nil : (lines : List (List Text)) → onto [] lines ≡ lines
onto-nil [] = refl
onto-nil (fields ∷ lines) = refl

onto-onto : (front more : List Text) (lines : List (List Text)) → onto front (onto more lines) ≡ onto (front ++ more) lines
onto-onto front more [] = refl
onto-onto front more (fields ∷ lines) = ap (λ fs. fs ∷ lines) (sym (append_assoc front more fields))

-- Before the first field.
pub begun : (text : Text) → keep 1 (onto [] (cut text)) ≡ kept_lines 1 (lines_in text)
begun text = ap (keep 1) (onto-nil (cut text)) ∙ keep_all 1 (lines_in text)

-- The lines so far, and those of the rest of the text with the fields so far prepended, are all
-- lines. The same holds past one more field.
module _ (lines : List (ℕ × List Text)) (n : ℕ) (fields : List Text) (left field : Text) (all : List (ℕ × List Text)) (so_far : lines ++ keep n (onto fields (cut left)) ≡ all) (plain : All is_plain field) where
  pub past_tab : (rest : Text) → left ≡ field ++ 9 ∷ rest → lines ++ keep n (onto (fields ++ field ∷ []) (cut rest)) ≡ all
  past_tab rest e =
      ap (λ ls. lines ++ keep n ls) (sym (onto-onto fields (field ∷ []) (cut rest)) ∙ ap (onto fields) (sym (tab_after field plain rest) ∙ ap cut (sym e))) ∙ so_far

  pub past_feed : (rest : Text) → left ≡ field ++ 10 ∷ rest → (lines ++ kept_line n (fields ++ field ∷ [])) ++ keep (n + 1) (onto [] (cut rest)) ≡ all
  past_feed rest e =
      let here : kept_line n (fields ++ field ∷ []) ++ keep (n + 1) (cut rest) ≡ keep n (onto fields ((field ∷ []) ∷ cut rest)) = refl in
      let there : keep n (onto fields ((field ∷ []) ∷ cut rest)) ≡ keep n (onto fields (cut left)) = ap (λ ls. keep n (onto fields ls)) (sym (feed_after field plain rest) ∙ ap cut (sym e)) in
      append_assoc lines _ _ ∙ ap (λ ls. lines ++ ls) (ap (λ ls. kept_line n (fields ++ field ∷ []) ++ keep (n + 1) ls) (onto-nil (cut rest)) ∙ here ∙ there) ∙ so_far

  pub past_end : left ≡ field → lines ++ kept_line n (fields ++ field ∷ []) ≡ all
  past_end e =
      ap (λ ls. lines ++ ls) (sym (append-nil (kept_line n (fields ++ field ∷ []))))
      ∙ ap (λ ls. lines ++ keep n (onto fields ls)) (sym (end_after field plain) ∙ ap cut (sym e)) ∙ so_far

  -- The same past a field that ends at a tab or a line feed.
  pub past_field : (ends : Bool) (rest : Text) → (ends ≡ true → left ≡ field ++ 10 ∷ rest) → (ends ≡ false → left ≡ field ++ 9 ∷ rest)
      → (lines ++ (if ends then kept_line n (fields ++ field ∷ []) else [])) ++ keep (if ends then n + 1 else n) (onto (if ends then [] else fields ++ field ∷ []) (cut rest)) ≡ all
  past_field true rest feed tab = past_feed rest (feed refl)
  past_field false rest feed tab = ap (λ ls. ls ++ keep n (onto (fields ++ field ∷ []) (cut rest))) (append-nil lines) ∙ past_tab rest (tab refl)

-- The number of the line that the next field belongs to.
pub next_number : (ends : Bool) (n : ℕ) → (if ends then n + 1 else n) ≤ n + 1
next_number true n = omega arith
next_number false n = omega arith

pub not_both : (b : Bool) → b ≡ true → b ≡ false → ⊥
not_both true h e = cc
not_both false h e = cc
