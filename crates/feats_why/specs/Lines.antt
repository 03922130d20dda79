-- The lines that show an explanation.
use Rattle.std.specs.Prelude.{ℕ, List, [], ◌∷◌, ◌++◌, map, filter, flat_map}
use Rattle.cargo_workspaces.specs.Workspaces.{Text, PackageText}
use Rattle.feats_lines.specs.Lines.{cell, widest}
use Rattle.feats_why.specs.Labels.{spot_label}
use Rattle.feats_why.specs.Reasons.{reason_words}
use Rattle.feats_why.specs.Relations.{is_shown}
use Rattle.feats_why.specs.Settings.{SettingsText}
use Rattle.plan_whys.specs.Steps.{WhyText}
use Rattle.shown_texts.specs.Shown.{escaped}

-- The texts of a line's columns.
pub record RowText : Type 0 where
  pub label : Text
  pub reason : Text

abbrev pub row_of : List PackageText → SettingsText → WhyText → RowText
row_of packages s step = record { label = spot_label packages s.split step.spot; reason = reason_words packages s step.spot step.reason }

-- The line of a row: columns are two spaces apart.
abbrev pub line_of : ℕ → RowText → Text
line_of width r = cell width r.label ++ (32 ∷ (r.reason ++ 10 ∷ []))

abbrev pub label_width : List RowText → ℕ
label_width rows = widest (map (λ r. r.label) rows)

-- The lines of rows whose texts are as they are shown.
abbrev pub lines_of : List RowText → Text
lines_of rows = flat_map (line_of (label_width rows)) rows

-- A row as it is shown: each control character is escaped, so a row is one line.
abbrev pub shown_row : RowText → RowText
shown_row r = record { label = escaped r.label; reason = escaped r.reason }

abbrev pub table_of : List RowText → Text
table_of rows = lines_of (map shown_row rows)

-- A line for each step that is shown, in the order of the steps.
abbrev pub why_lines : List PackageText → SettingsText → List WhyText → Text
why_lines packages s steps = table_of (map (row_of packages s) (filter is_shown steps))
