-- Appending a line keeps the lines before it.
use Rattle.std.proofs.Common.{is_none, ◌≡◌, ℕ, ◌-◌, ◌≤◌, ◌++◌, List, [], ◌∷◌, length, take, drop, ap, ◌∙◌, refl, arith}
use Rattle.std.proofs.lemmas.List.{length-append, take-append-le, drop-append-le}
use Rattle.std.proofs.lemmas.Grind.{common_steps}
use Rattle.std.proofs.Math.Seq.{drop-append_seam, take-length}
use Rattle.std.specs.List.{slice_range}
use Rattle.guppy_packages.specs.Rows.{Text}
use Rattle.row_files.specs.Forms.{fields_of, line_texts}
use Rattle.row_files.specs.RowOfLine.{row_of}
use Rattle.row_files.specs.inner.KeptFields.{AreKept, IsKept, form_row, is_malformed}
use Rattle.row_files.specs.declared.line.Line.{Line}
use Rattle.row_files.specs.declared.line.Form.{Form}

-- Appending keeps each range within the list.
range-append : (fields more : List Text) (start end : ℕ) → start ≤ end → end ≤ length fields → slice_range (fields ++ more) start end ≡ slice_range fields start end
range-append fields more start end p q =
    let begun : start ≤ length fields = omega arith in
    let fits : end - start ≤ length (drop start fields) = grind (arith, common_steps) in
    ap (take (end - start)) (drop-append-le start fields more begun) ∙ take-append-le (end - start) (drop start fields) more fits

-- The range that was appended.
range-added : (fields more : List Text) → slice_range (fields ++ more) (length fields) (length (fields ++ more)) ≡ more
range-added fields more =
    let long : length (fields ++ more) - length fields ≡ length more = grind (arith, common_steps) in
    rw (drop-append_seam fields more, long) (take-length more)

-- A line of this form is appended, with `more` as its kept fields.
module _ (kept more : List Text) (n : ℕ) (form : Form) (row : form_row form more ≡ row_of (fields_of form more)) (known : is_none (form_row form more) ≡ is_malformed form) where
  abbrev last : Line
  last = record { number = n; end = length (kept ++ more); form = form }

  -- `start` is the end of the kept fields so far.
  last_kept : (start : ℕ) → start ≡ length kept → IsKept (kept ++ more) start last × (slice_range (kept ++ more) start (length (kept ++ more)) ≡ more)
  last_kept start is =
      let added : slice_range (kept ++ more) start (length (kept ++ more)) ≡ more = rw is (range-added kept more) in
      let line : IsKept (kept ++ more) start last = record {
        ordered = omega (arith, is, length-append kept more);
        within = omega arith;
        row = rw added row;
        known = rw added known;
      } in
      (line, added)

  -- A line before it.
  earlier : (start : ℕ) (line : Line) → IsKept kept start line → IsKept (kept ++ more) start line
  earlier start line is =
      let same = range-append kept more start line.end is.ordered is.within in
      record {
        ordered = is.ordered;
        within = omega (arith, is.within, length-append kept more);
        row = rw same is.row;
        known = rw same is.known;
      }

  pub lines_pushed : (start : ℕ) (lines : List Line) → AreKept kept start lines → AreKept (kept ++ more) start (lines ++ last ∷ [])
  lines_pushed start [] is = ((last_kept start is).0, refl)
  lines_pushed start (line ∷ lines) each = (earlier start line each.0, lines_pushed line.end lines each.1)

  pub texts_pushed : (start : ℕ) (lines : List Line) → AreKept kept start lines → line_texts (kept ++ more) start (lines ++ last ∷ []) ≡ line_texts kept start lines ++ (n, fields_of form more) ∷ []
  texts_pushed start [] is = ap (λ r. (n, fields_of form r) ∷ []) (last_kept start is).1
  texts_pushed start (line ∷ lines) each =
      ap (λ r. (line.number, fields_of line.form r) ∷ line_texts (kept ++ more) line.end (lines ++ last ∷ [])) (range-append kept more start line.end each.0.ordered each.0.within)
      ∙ ap (λ r. (line.number, fields_of line.form (slice_range kept start line.end)) ∷ r) (texts_pushed line.end lines each.1)
