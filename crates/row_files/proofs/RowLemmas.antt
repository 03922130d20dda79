-- The numbers and the rows of lines whose kept fields are in one list.
use Rattle.std.proofs.Common.{None, false, ◌≡◌, ℕ, zero, suc, ◌-◌, ◌<◌, List, [], ◌∷◌, Ok, Option, Some, get_or, is_none, length, map, take, drop, sym, ap, ◌∙◌, refl, subst, arith}
use Rattle.std.proofs.lemmas.List.{take-map, drop-map}
use Rattle.std.proofs.lemmas.Option.{slice_get_read}
use Rattle.std.specs.Prelude.{slice_get, slice_index}
use Rattle.std.specs.List.{slice_range}
use Rattle.std.specs.Option.{option_map}
use Rattle.std.specs.Borrow.{Bor}
use Rattle.guppy_packages.specs.Rows.{RowText, Text, texts}
use Rattle.row_files.specs.Forms.{fields_of, line_texts}
use Rattle.row_files.specs.RowFile.{line_of, rows_of}
use Rattle.row_files.specs.RowOfLine.{row_of}
use Rattle.row_files.specs.declared.error.RowFileError.TheVariants as error
use Rattle.row_files.specs.inner.KeptFields.{AreKept, IsKept, form_row, is_malformed}
use Rattle.row_files.proofs.EachLemmas.{each_or-at, each_or-length, there}
use Rattle.row_files.specs.declared.line.Line.{Line}

-- The texts of a range of fields.
range_texts : (fields : List (Bor Text)) (start end : ℕ) → texts (take (end - start) (drop start fields)) ≡ slice_range (texts fields) start end
range_texts fields start end = sym (take-map (λ t. t.now) (end - start) (drop start fields)) ∙ ap (take (end - start)) (sym (drop-map (λ t. t.now) start fields))

-- The start of the kept fields of the line at a place, if those of the first line begin at `start`.
abbrev pub start_at : ℕ → List Line → ℕ → ℕ
start_at start lines i = slice_index (start ∷ map (λ line. line.end) lines) i

-- The line at a place, and the range of its kept fields.
pub record IsLine (kept : List Text) (start : ℕ) (lines : List Line) (i : ℕ) (line : Line) : Type 0 where
  pub kept_fields : IsKept kept (start_at start lines i) line
  pub text : slice_get (line_texts kept start lines) i ≡ Some (line.number, fields_of line.form (slice_range kept (start_at start lines i) line.end))

line_there : (kept : List Text) (start : ℕ) (lines : List Line) (i : ℕ) (line : Line) → AreKept kept start lines → slice_get lines i ≡ Some line → IsLine kept start lines i line
line_there kept start [] i line each at = absurd (cc)
line_there kept start (l ∷ lines) zero line each at =
    let same : l ≡ line = cc in
    subst (IsLine kept start (l ∷ lines) 0) same (record { kept_fields = each.0; text = refl })
line_there kept start (l ∷ lines) (suc i) line each at =
    let more = line_there kept l.end lines i line each.1 at in
    record { kept_fields = more.kept_fields; text = more.text }

pub length-line_texts : (kept : List Text) (start : ℕ) (lines : List Line) → length (line_texts kept start lines) ≡ length lines
length-line_texts kept start [] = refl
length-line_texts kept start (line ∷ lines) = ap suc (length-line_texts kept line.end lines)

-- The line that is read at a place.
pub line_read : (kept : List Text) (lines : List Line) (i : ℕ) (line : Line) → AreKept kept 0 lines → i < length (line_texts kept 0 lines) → line ≡ get_or lines i line → IsLine kept 0 lines i line
line_read kept lines i line each within is =
    line_there kept 0 lines i line each (slice_get_read lines (length lines) i line refl (omega (arith, length-line_texts kept 0 lines, within)) is)

module _ (kept : List (Bor Text)) (lines : List Line) (i : ℕ) (line : Line) (is : IsLine (texts kept) 0 lines i line) where
  -- The row of the line at a place, from its kept fields.
  pub row_at_line : option_map (λ l. row_of l.1) (slice_get (line_texts (texts kept) 0 lines) i) ≡ Some (form_row line.form (texts (take (line.end - start_at 0 lines i) (drop (start_at 0 lines i) kept))))
  row_at_line =
      ap (option_map (λ l. row_of l.1)) is.text
      ∙ ap Some (sym is.kept_fields.row ∙ ap (form_row line.form) (sym (range_texts kept (start_at 0 lines i) line.end)))

  -- Whether the line at a place is malformed, from its form.
  pub malformed_at : option_map (λ l. is_none (row_of l.1)) (slice_get (line_texts (texts kept) 0 lines) i) ≡ Some (is_malformed line.form)
  malformed_at =
      ap (option_map (λ l. is_none (row_of l.1))) is.text
      ∙ ap Some (sym (ap is_none is.kept_fields.row) ∙ is.kept_fields.known)

  -- If a line has a row, so do its kept fields.
  pub known_at : option_map (λ l. is_none (row_of l.1)) (slice_get (line_texts (texts kept) 0 lines) i) ≡ Some false → is_none (form_row line.form (texts (take (line.end - start_at 0 lines i) (drop (start_at 0 lines i) kept)))) ≡ false
  known_at known =
      let same : Some (is_malformed line.form) ≡ Some false = sym malformed_at ∙ known in
      let clear : is_malformed line.form ≡ false = cc in
      ap (λ fs. is_none (form_row line.form fs)) (range_texts kept (start_at 0 lines i) line.end) ∙ is.kept_fields.known ∙ clear

-- The number of the line at a place.
pub number_at : (kept : List Text) (start : ℕ) (lines : List Line) (n : ℕ) (d : Line) → n < length lines → line_of (line_texts kept start lines) n ≡ (get_or lines n d).number
number_at kept start [] n d h = absurd (omega arith)
number_at kept start (line ∷ lines) zero d h = refl
number_at kept start (line ∷ lines) (suc n) d h = number_at kept line.end lines n d (omega arith)

-- The number of the line that was read at a place.
pub number_there : (lines : List (ℕ × List Text)) (i : ℕ) (line : ℕ × List Text) → slice_get lines i ≡ Some line → line_of lines i ≡ line.0
number_there [] i line e = absurd (cc)
number_there (l ∷ lines) zero line e =
    let same : l ≡ line = cc in
    ap (λ x. x.0) same
number_there (l ∷ lines) (suc i) line e = number_there lines i line e

-- The rows of lines that are all well-formed.
module _ (lines : List (ℕ × List Text)) (rows : List RowText) where
  pub as_many : rows_of lines ≡ Ok rows → length rows ≡ length lines
  as_many read = each_or-length (λ l. row_of l.1) (λ l. error.Malformed l.0) lines rows read

  -- The row of the line at a place.
  pub row_there : (i : ℕ) (row : Option RowText) → rows_of lines ≡ Ok rows → option_map (λ l. row_of l.1) (slice_get lines i) ≡ Some row → slice_get rows i ≡ row
  row_there i row read given = each_or-at (λ l. row_of l.1) (λ l. error.Malformed l.0) lines rows i row read given

  -- Each line has a row.
  pub known_there : (i : ℕ) → rows_of lines ≡ Ok rows → i < length rows → option_map (λ l. is_none (row_of l.1)) (slice_get lines i) ≡ Some false
  known_there i read within = by (slice_get lines i) refl
    where
      given : (r : Option RowText) → slice_get rows i ≡ r → is_none r ≡ false
      given None e = absurd (there rows i within e)
      given (Some row) e = refl

      by : (o : Option (ℕ × List Text)) → slice_get lines i ≡ o → option_map (λ l. is_none (row_of l.1)) o ≡ Some false
      by None e = absurd (there lines i (omega (arith, as_many read)) e)
      by (Some line) e = ap Some (given (row_of line.1) (row_there i (row_of line.1) read (ap (option_map (λ l. row_of l.1)) e)))
