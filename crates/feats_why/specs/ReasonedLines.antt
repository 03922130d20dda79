-- The lines that show an explanation with every direct reason.
use Rattle.std.specs.Prelude.{List, [], ◌∷◌, ◌++◌, map, fold, flat_map, Bool, if◌then◌else◌}
use Rattle.std.specs.List.{list_any}
use Rattle.std.specs.Str.{bytes_eq}
use Rattle.cargo_workspaces.specs.Workspaces.{Text, PackageText}
use Rattle.feats_why.specs.Lines.{RowText, row_of, table_of}
use Rattle.feats_why.specs.Reasons.{reason_words}
use Rattle.feats_why.specs.Relations.{is_shown}
use Rattle.feats_why.specs.Settings.{SettingsText}
use Rattle.plan_whys.specs.Steps.{ReasonedText}

-- The row of a further reason: the label isn't repeated.
abbrev pub further_row : Text → RowText
further_row words = record { label = []; reason = words }

abbrev pub has_words : Text → List RowText → Bool
has_words words rows = list_any (λ r. bytes_eq words r.reason) rows

-- The rows with one for these words, unless a row has them.
abbrev pub with_words : List RowText → Text → List RowText
with_words rows words = if has_words words rows then rows else rows ++ further_row words ∷ []

-- The row of a step, and a row for each further reason that differs in words.
abbrev pub rows_with_reasons : List PackageText → SettingsText → ReasonedText → List RowText
rows_with_reasons packages s r = fold with_words (row_of packages s r.step ∷ []) (map (reason_words packages s r.step.spot) r.reasons)

-- These rows; none, if the step isn't shown.
abbrev pub shown_rows : List PackageText → SettingsText → ReasonedText → List RowText
shown_rows packages s r = if is_shown r.step then rows_with_reasons packages s r else []

-- The rows of the steps, in their order.
abbrev pub reasoned_lines : List PackageText → SettingsText → List ReasonedText → Text
reasoned_lines packages s steps = table_of (flat_map (shown_rows packages s) steps)
