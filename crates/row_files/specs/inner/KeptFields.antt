-- The kept fields of a line, and the row that they determine.
use Rattle.std.specs.Prelude.{◌≡◌, ℕ, ◌≤◌, List, [], ◌∷◌, Bool, true, false, Option, None, Some, is_none, length}
use Rattle.std.specs.List.{slice_range}
use Rattle.std.proofs.Props.{props}
use Rattle.guppy_packages.specs.Rows.{Text, RowText, a_package, a_feature, a_dep}
use Rattle.guppy_packages.specs.declared.row.DependencyKind.{DependencyKind}
use Rattle.row_files.specs.RowOfLine.{row_of}
use Rattle.row_files.specs.Forms.{fields_of}
use Rattle.row_files.specs.declared.line.Form.{Form}
use Rattle.row_files.specs.declared.line.Form.TheVariants as form
use Rattle.row_files.specs.declared.line.Line.{Line}

-- The kept fields of a dependency on every platform.
abbrev pub dep_kept : List Text → List Text
dep_kept (word ∷ name ∷ target ∷ of_kind ∷ need ∷ platform ∷ with_defaults ∷ features) = name ∷ target ∷ features
dep_kept _ = []

-- The kept fields of a dependency on some platforms.
abbrev pub platform_dep_kept : List Text → List Text
platform_dep_kept (word ∷ name ∷ target ∷ of_kind ∷ need ∷ platform ∷ with_defaults ∷ features) = name ∷ target ∷ platform ∷ features
platform_dep_kept _ = []

-- The kept fields of a line of this form.
abbrev pub kept_of : Form → List Text → List Text
kept_of form.Malformed fields = fields
kept_of (form.Package in_workspace) (word ∷ id ∷ place ∷ []) = id ∷ []
kept_of form.Feature (word ∷ fields) = fields
kept_of (form.Dep kind optional defaults) fields = dep_kept fields
kept_of (form.PlatformDep kind optional defaults) fields = platform_dep_kept fields
kept_of _ _ = []

-- The row of a dependency on every platform, from its kept fields.
abbrev pub dep_row_of : DependencyKind → Bool → Bool → List Text → Option RowText
dep_row_of kind optional defaults (name ∷ target ∷ features) =
    Some (a_dep name target (record { kind = kind; optional = optional; platform = None; default_features = defaults; features = features }))
dep_row_of _ _ _ _ = None

-- The row of a dependency on some platforms, from its kept fields.
abbrev pub platform_dep_row_of : DependencyKind → Bool → Bool → List Text → Option RowText
platform_dep_row_of kind optional defaults (name ∷ target ∷ platform ∷ features) =
    Some (a_dep name target (record { kind = kind; optional = optional; platform = Some platform; default_features = defaults; features = features }))
platform_dep_row_of _ _ _ _ = None

-- The row of a line of this form, from its kept fields.
abbrev pub form_row : Form → List Text → Option RowText
form_row (form.Package in_workspace) (id ∷ []) = Some (a_package id in_workspace)
form_row form.Feature (name ∷ items) = Some (a_feature name items)
form_row (form.Dep kind optional defaults) kept = dep_row_of kind optional defaults kept
form_row (form.PlatformDep kind optional defaults) kept = platform_dep_row_of kind optional defaults kept
form_row _ _ = None

abbrev pub is_malformed : Form → Bool
is_malformed form.Malformed = true
is_malformed _ = false

-- The line's kept fields are a range of `kept` that begins at `start`, and determine the row of the line's fields.
pub record IsKept (kept : List Text) (start : ℕ) (line : Line) : Type 0 where
  pub ordered : start ≤ line.end
  pub within : line.end ≤ length kept
  pub row : form_row line.form (slice_range kept start line.end) ≡ row_of (fields_of line.form (slice_range kept start line.end))
  pub known : is_none (form_row line.form (slice_range kept start line.end)) ≡ is_malformed line.form

-- The kept fields of the lines are those of `kept` from `start` on, one line's after the other's.
abbrev pub AreKept : List Text → ℕ → List Line → Type 0
AreKept kept start [] = start ≡ length kept
AreKept kept start (line ∷ lines) = IsKept kept start line × AreKept kept line.end lines

-- A proof of this is unique.
pub AreKept-prop : (kept : List Text) (start : ℕ) (lines : List Line) → IsProp (AreKept kept start lines)
AreKept-prop kept start [] = hlevel props
AreKept-prop kept start (line ∷ lines) = hlevel (AreKept-prop kept line.end lines, props)
