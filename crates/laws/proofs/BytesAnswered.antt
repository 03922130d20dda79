-- The tables of bytes are tables of rows, so each command has an answer over all bytes.
use Rattle.std.proofs.Common.{◌≡◌, ℕ, Bool, true, false, List, [], ◌∷◌, ◌++◌, Result, Ok, Err, refl, ap, sym, ◌∙◌, subst, cond}
use Rattle.std.specs.Str.{is_utf8}
use Rattle.digraph_orders.specs.Laws.{OrderExists}
use Rattle.guppy_packages.specs.Graph.{dependencies_of, faults_by, faults_of, first_or, link_fault, links_of, packages_of, row_fault, tables_of}
use Rattle.guppy_packages.specs.Rows.{RowText, Text}
use Rattle.guppy_packages.specs.Tables.{AreTables, Tables}
use Rattle.guppy_packages.specs.declared.row_error.RowError.{RowError}
use Rattle.guppy_packages.proofs.Sound.{tables_sound}
use Rattle.row_files.specs.Lines.{kept_lines, lines_in}
use Rattle.row_files.specs.RowFile.{◌>>=◌, by_line, rows_of, tables_in as tables_of_file, tables_of_lines}
use Rattle.row_files.specs.declared.error.RowFileError.{RowFileError}
use Rattle.row_files.specs.declared.error.RowFileError.TheVariants as error
use Rattle.guppy_tool.specs.Faults.{Refusal}
use Rattle.guppy_tool.specs.Run.{IsOutputOf}
use Rattle.guppy_tool.specs.RowFileRefusals.{file_refusal, in_refusals}
use Rattle.guppy_tool.specs.Words.{CommandText}
use Rattle.laws.specs.answers.Laws.{AnswerExists}
use Rattle.laws.proofs.AnswerExists.{output_exists}
use Rattle.laws.proofs.DoubleNegation.{sure}

no_first : {X : Type 0} (xs ys : List X) → xs ++ ys ≡ [] → xs ≡ []
no_first [] ys e = refl
no_first (x ∷ xs) ys e = absurd (cc)

no_second : {X : Type 0} (xs ys : List X) → xs ++ ys ≡ [] → ys ≡ []
no_second [] ys e = e
no_second (x ∷ xs) ys e = absurd (cc)

no_fault : {X : Type 0} (faults : List RowError) (x y : X) → first_or faults x ≡ Ok y → (faults ≡ []) × (x ≡ y)
no_fault [] x y e = (refl, cc)
no_fault (f ∷ faults) x y e = absurd (cc)

rows_sound : (rows : List RowText) (t : Tables) → tables_of rows ≡ Ok t → AreTables t
rows_sound rows t e =
    let packages = packages_of rows in
    let none = no_fault (faults_of rows) (record { packages = packages_of rows; links = links_of (dependencies_of (packages_of rows) rows) }) t e in
    let first : faults_by row_fault rows ≡ [] = no_first (faults_by row_fault rows) (faults_by (link_fault (packages_of rows)) rows) none.0 in
    let second : faults_by (link_fault (packages_of rows)) rows ≡ [] = no_second (faults_by row_fault rows) (faults_by (link_fault (packages_of rows)) rows) none.0 in
    subst AreTables none.1 (tables_sound rows first second)

line_ok : {X : Type 0} (lines : List (ℕ × List Text)) (r : Result X RowError) (x : X) → by_line lines r ≡ Ok x → r ≡ Ok x
line_ok lines (Ok y) x e = let same : y ≡ x = cc in ap Ok same
line_ok lines (Err f) x e = absurd (cc)

lines_sound : (lines : List (ℕ × List Text)) (t : Tables) → tables_of_lines lines ≡ Ok t → AreTables t
lines_sound lines t e = go (rows_of lines) refl
  where
    go : (r : Result (List RowText) RowFileError) → rows_of lines ≡ r → AreTables t
    go (Ok rows) is = rows_sound rows t (line_ok lines (tables_of rows) t (sym (ap (λ r. r >>= λ rows. by_line lines (tables_of rows)) is) ∙ e))
    go (Err f) is = absurd (let clash : ◌≡◌ {A = Result Tables RowFileError} (Err f) (Ok t) = sym (ap (λ r. r >>= λ rows. by_line lines (tables_of rows)) is) ∙ e in cc)

chosen_sound : (utf8 : Bool) (lines : List (ℕ × List Text)) (t : Tables) → cond utf8 (tables_of_lines lines) (Err error.NotText) ≡ Ok t → AreTables t
chosen_sound true lines t e = lines_sound lines t e
chosen_sound false lines t e = absurd (cc)

pub file_sound : (bytes : Text) (t : Tables) → tables_of_file bytes ≡ Ok t → AreTables t
file_sound bytes t e = chosen_sound (is_utf8 bytes) (kept_lines 1 (lines_in bytes)) t e

answered : OrderExists → (command : CommandText) (tables : Result Tables RowFileError) → ((t : Tables) → tables ≡ Ok t → AreTables t) → ¬ ¬ ((answer : Result Text Refusal) × IsOutputOf command (in_refusals tables) answer)
answered order command (Ok t) sound = output_exists order command t (sound t refl)
answered order command (Err e) sound = sure (Err (file_refusal e), refl)

pub answer_exists : OrderExists → AnswerExists
answer_exists order command bytes = answered order command (tables_of_file bytes) (file_sound bytes)
