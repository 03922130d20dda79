-- Texts whose lines are read as rows.
use Rattle.std.proofs.Common.{◌≡◌, ℕ, ◌+◌, Bool, true, false, ◌||◌, List, [], ◌∷◌, ◌++◌, Some, Ok, Err, refl, ap, sym, ◌∙◌, subst, cond, append_assoc, append-nil}
use Rattle.std.specs.Prelude.{All, ◌==◌, filter, map, not}
use Rattle.std.specs.Char.{is_ascii_control}
use Rattle.std.specs.List.{AllByRecursion, enumerate_from}
use Rattle.std.specs.Str.{IsUtf8}
use Rattle.std.proofs.lemmas.Bool.{eqb-true}
use Rattle.std.proofs.lemmas.List.Elements.{All-append, All-cons, All-nil}
use Rattle.std.proofs.lemmas.List.Splits.{slice_split_at, slice_split_none}
use Rattle.std.proofs.lemmas.Str.{is_utf8-from_IsUtf8}
use Rattle.cargo_json.specs.Faults.{control}
use Rattle.workspace_documents.proofs.Sorted.{both_ok, ok_same}
use Rattle.cargo_rows.specs.Rows.{allowed, fields_text, has_control, row, row_text}
use Rattle.guppy_packages.specs.Graph.{tables_of}
use Rattle.guppy_packages.specs.Rows.{RowText, Text}
use Rattle.row_files.proofs.FirstFaultLemmas.{each_or-cons, with_first}
use Rattle.row_files.specs.Lines.{fields_in, is_skipped, kept_lines, lines_in}
use Rattle.row_files.specs.RowFile.{◌>>=◌, by_line, rows_of, tables_in, tables_of_lines}
use Rattle.row_files.specs.RowOfLine.{row_of}
use Rattle.row_files.specs.declared.error.RowFileError.TheVariants as error

-- Lines that aren't skipped, each read as a row.
abbrev AreLines : List Text → List RowText → Type 0
AreLines [] [] = Unit {0}
AreLines [] (r ∷ rows) = ⊥
AreLines (l ∷ lines) [] = ⊥
AreLines (l ∷ lines) (r ∷ rows) = (is_skipped l ≡ false) × (row_of (fields_in l) ≡ Some r) × AreLines lines rows

-- The text has whole lines, and they are read as `rows`.
pub record Reads (text : Text) (rows : List RowText) : Type 0 where
  lines : List Text
  are : AreLines lines rows
  split : (rest : Text) → lines_in (text ++ rest) ≡ lines ++ lines_in rest

pub reads_none : Reads [] []
reads_none = record { lines = []; are = tt; split = λ rest. refl }

both_lines : (ls ms : List Text) (rs ss : List RowText) → AreLines ls rs → AreLines ms ss → AreLines (ls ++ ms) (rs ++ ss)
both_lines [] ms [] ss a b = b
both_lines [] ms (r ∷ rs) ss a b = absurd a
both_lines (l ∷ ls) ms [] ss a b = absurd a
both_lines (l ∷ ls) ms (r ∷ rs) ss a b = (a.0, a.1, both_lines ls ms rs ss a.2 b)

pub reads_both : (s t : Text) (rs ss : List RowText) → Reads s rs → Reads t ss → Reads (s ++ t) (rs ++ ss)
reads_both s t rs ss a b = record {
  lines = a.lines ++ b.lines;
  are = both_lines a.lines b.lines rs ss a.are b.are;
  split = λ rest. ap lines_in (append_assoc s t rest) ∙ a.split (t ++ rest) ∙ ap (λ z. a.lines ++ z) (b.split rest) ∙ sym (append_assoc a.lines b.lines (lines_in rest));
}

-- ---- one line

or_parts : (a b : Bool) → (a || b) ≡ false → (a ≡ false) × (b ≡ false)
or_parts true b e = absurd (cc)
or_parts false b e = (refl, e)

other_byte : (c b : ℕ) → is_ascii_control c ≡ true → is_ascii_control b ≡ false → (b == c) ≡ false
other_byte c b is other = go (b == c) refl
  where
    go : (t : Bool) → (b == c) ≡ t → t ≡ false
    go false e = refl
    go true e = absurd (let clash : true ≡ false = sym is ∙ ap is_ascii_control (sym (eqb-true b c e)) ∙ other in cc)

no_byte : (c : ℕ) → is_ascii_control c ≡ true → (s : Text) → has_control s ≡ false → All (λ b. (b == c) ≡ false) s
no_byte c is [] h = All-nil (λ b. (b == c) ≡ false)
no_byte c is (b ∷ s) h =
    let parts = or_parts (is_ascii_control b) (has_control s) h in
    All-cons (λ b. (b == c) ≡ false) b s (other_byte c b is parts.0) (no_byte c is s parts.1)

clean : (fields : List Text) → allowed fields ≡ Ok tt → AllByRecursion (λ s. has_control s ≡ false) fields
clean [] e = tt
clean (s ∷ fields) e = go (clean fields) (has_control s) refl e
  where
    go : (allowed fields ≡ Ok tt → AllByRecursion (λ s. has_control s ≡ false) fields)
        → (b : Bool) → has_control s ≡ b → cond b (Err (control s)) (allowed fields) ≡ Ok tt → (has_control s ≡ false) × AllByRecursion (λ s. has_control s ≡ false) fields
    go rest true is h = absurd (cc)
    go rest false is h = (is, rest h)

fields_split : (word : Text) (fields : List Text) → All (λ b. (b == 9) ≡ false) word → AllByRecursion (λ s. has_control s ≡ false) fields → fields_in (word ++ fields_text fields) ≡ word ∷ fields
fields_split word [] w h = ap fields_in (append-nil word) ∙ slice_split_none (λ b. b == 9) word w
fields_split word (f ∷ fields) w h =
    slice_split_at (λ b. b == 9) word 9 (f ++ fields_text fields) w refl
    ∙ ap (λ z. word ∷ z) (fields_split f fields (no_byte 9 refl f h.0) h.1)

no_line_end : (fields : List Text) → AllByRecursion (λ s. has_control s ≡ false) fields → All (λ b. (b == 10) ≡ false) (fields_text fields)
no_line_end [] h = All-nil (λ b. (b == 10) ≡ false)
no_line_end (f ∷ fields) h =
    All-append (λ b. (b == 10) ≡ false) (9 ∷ f) (fields_text fields) (All-cons (λ b. (b == 10) ≡ false) 9 f refl (no_byte 10 refl f h.0)) (no_line_end fields h.1)

-- A word that begins a row: it has no control character, and doesn't begin with `#`.
abbrev pub IsWord : Text → Type 0
IsWord [] = ⊥
IsWord (b ∷ word) = ((b == 35) ≡ false) × (has_control (b ∷ word) ≡ false)

word_clean : (word : Text) → IsWord word → has_control word ≡ false
word_clean [] w = absurd w
word_clean (b ∷ word) w = w.1

word_kept : (word rest : Text) → IsWord word → is_skipped (word ++ rest) ≡ false
word_kept [] rest w = absurd w
word_kept (b ∷ word) rest w = w.0

line_split : (word : Text) (fields : List Text) → IsWord word → AllByRecursion (λ s. has_control s ≡ false) fields → (rest : Text) → lines_in (row_text word fields ++ rest) ≡ (word ++ fields_text fields) ∷ lines_in rest
line_split word fields w h rest =
    let front : All (λ b. (b == 10) ≡ false) (word ++ fields_text fields) = All-append (λ b. (b == 10) ≡ false) word (fields_text fields) (no_byte 10 refl word (word_clean word w)) (no_line_end fields h) in
    ap lines_in (append_assoc (word ++ fields_text fields) (10 ∷ []) rest) ∙ slice_split_at (λ b. b == 10) (word ++ fields_text fields) 10 rest front refl

-- a written row is one line, and is read as the row of its fields
pub reads_row : (word : Text) (fields : List Text) (r : RowText) (text : Text) → IsWord word → row_of (word ∷ fields) ≡ Some r → row word fields ≡ Ok text → Reads text (r ∷ [])
unfolding row
reads_row word fields r text w is e =
    let may = both_ok (allowed fields) (λ _. Ok (row_text word fields)) text e in
    let h = clean fields may.1 in
    let read : row_of (fields_in (word ++ fields_text fields)) ≡ Some r = ap row_of (fields_split word fields (no_byte 9 refl word (word_clean word w)) h) ∙ is in
    subst (λ z. Reads z (r ∷ [])) (ok_same (row_text word fields) text may.2) (record {
      lines = (word ++ fields_text fields) ∷ [];
      are = (word_kept word (fields_text fields) w, read, tt);
      split = line_split word fields w h;
    })

-- ---- all lines

abbrev kept : List (ℕ × Text) → List (ℕ × List Text)
kept lines = map (λ l. (l.0, fields_in l.1)) (filter (λ l. not (is_skipped l.1)) lines)

kept_first : (n : ℕ) (l : Text) (lines : List (ℕ × Text)) → is_skipped l ≡ false → kept ((n, l) ∷ lines) ≡ (n, fields_in l) ∷ kept lines
kept_first n l lines h = ap (λ b. map (λ (l : ℕ × Text). (l.0, fields_in l.1)) (cond (not b) ((n, l) ∷ filter (λ (l : ℕ × Text). not (is_skipped l.1)) lines) (filter (λ (l : ℕ × Text). not (is_skipped l.1)) lines))) h

read_lines : (n : ℕ) (lines : List Text) (rows : List RowText) → AreLines lines rows → rows_of (kept_lines n (lines ++ [] ∷ [])) ≡ Ok rows
read_lines n [] [] h = refl
read_lines n [] (r ∷ rows) h = absurd h
read_lines n (l ∷ lines) [] h = absurd h
read_lines n (l ∷ lines) (r ∷ rows) h =
    let line : ℕ × List Text = (n, fields_in l) in
    let others : List (ℕ × List Text) = kept_lines (n + 1) (lines ++ [] ∷ []) in
    ap rows_of (kept_first n l (enumerate_from (n + 1) (lines ++ [] ∷ [])) h.0)
    ∙ each_or-cons (λ (line : ℕ × List Text). row_of line.1) (λ (line : ℕ × List Text). error.Malformed line.0) line others
    ∙ ap (λ o. with_first (error.Malformed n) o (rows_of others)) h.1
    ∙ ap (with_first (error.Malformed n) (Some r)) (read_lines (n + 1) lines rows h.2)

-- the lines of a text are read as its rows
pub read_all : (text : Text) (rows : List RowText) → Reads text rows → rows_of (kept_lines 1 (lines_in text)) ≡ Ok rows
read_all text rows r =
    ap (λ z. rows_of (kept_lines 1 z)) (ap lines_in (sym (append-nil text)) ∙ r.split [])
    ∙ read_lines 1 r.lines rows r.are

-- the tables of a text in UTF-8 are those of the rows that its lines are read as
pub tables_read : (text : Text) (rows : List RowText) → rows_of (kept_lines 1 (lines_in text)) ≡ Ok rows → IsUtf8 text → tables_in text ≡ by_line (kept_lines 1 (lines_in text)) (tables_of rows)
tables_read text rows is utf8 =
    ap (λ b. cond b (tables_of_lines (kept_lines 1 (lines_in text))) (Err error.NotText)) (is_utf8-from_IsUtf8 text utf8)
    ∙ ap (λ r. r >>= λ rows. by_line (kept_lines 1 (lines_in text)) (tables_of rows)) is
