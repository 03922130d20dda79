-- The forms of lines: the fields of a line are determined by its form and its kept fields.
use Rattle.std.specs.Prelude.{ℕ, List, [], ◌∷◌, Bool, true, false, codes}
use Rattle.std.specs.List.{slice_range}
use Rattle.guppy_packages.specs.Rows.{Text}
use Rattle.guppy_packages.specs.declared.row.DependencyKind.{DependencyKind}
use Rattle.guppy_packages.specs.declared.row.DependencyKind.TheVariants.{Normal, Build, Development}
use Rattle.row_files.specs.declared.line.Form.{Form}
use Rattle.row_files.specs.declared.line.Form.TheVariants as form
use Rattle.row_files.specs.declared.line.Line.{Line}

-- One of two words.
abbrev pub word_of : Text → Text → Bool → Text
word_of true_word false_word true = true_word
word_of true_word false_word false = false_word

abbrev pub kind_word : DependencyKind → Text
kind_word Normal = codes "normal"
kind_word Build = codes "build"
kind_word Development = codes "dev"

-- All fields of a line of this form, from its kept fields.
abbrev pub fields_of : Form → List Text → List Text
fields_of form.Malformed kept = kept
fields_of (form.Package in_workspace) (id ∷ []) = codes "package" ∷ id ∷ word_of (codes "workspace") (codes "external") in_workspace ∷ []
fields_of form.Feature kept = codes "feature" ∷ kept
fields_of (form.Dep kind optional defaults) (name ∷ target ∷ features) =
    codes "dep" ∷ name ∷ target ∷ kind_word kind ∷ word_of (codes "optional") (codes "required") optional ∷ codes "*" ∷ word_of (codes "default") (codes "nodefault") defaults ∷ features
fields_of (form.PlatformDep kind optional defaults) (name ∷ target ∷ platform ∷ features) =
    codes "dep" ∷ name ∷ target ∷ kind_word kind ∷ word_of (codes "optional") (codes "required") optional ∷ platform ∷ word_of (codes "default") (codes "nodefault") defaults ∷ features
fields_of _ _ = []

-- The number and all fields of each line, from the list of kept fields of all lines. Those of the first line begin at `start`, and those
-- of each other where those of the line before it end.
abbrev pub line_texts : List Text → ℕ → List Line → List (ℕ × List Text)
line_texts kept start [] = []
line_texts kept start (line ∷ lines) = (line.number, fields_of line.form (slice_range kept start line.end)) ∷ line_texts kept line.end lines
