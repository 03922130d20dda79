-- The lines of what differs between two plans.
use Rattle.std.specs.Prelude.{List, [], ◌∷◌, ◌++◌, map, flat_map, codes}
use Rattle.cargo_workspaces.specs.Workspaces.{Text, PackageText}
use Rattle.feats_lines.specs.parts.Tables.{RowText, table_of}
use Rattle.feats_lines.specs.Lines.{ShownText, label_of, name_of, spaced}
use Rattle.feats_diff.specs.texts.Shown.{DifferenceText, TurnedText, come, gone, changed}
use Rattle.feats_diff.specs.texts.Titles.{NamesText, changed_title}

-- Texts with a space between two.
abbrev pub words : List Text → Text
words [] = []
words (t ∷ ts) = t ++ flat_map spaced ts

-- The features that come, and then those that go.
abbrev pub marks : List TurnedText → List Text → Text
marks comes goes = words (map (λ t. codes "+" ++ t.name) comes ++ map (λ name. codes "-" ++ name) goes)

-- The last step of a `why` has a line of its own, below the features.
abbrev pub why_rows : Text → List RowText
why_rows [] = []
why_rows (c ∷ cs) = record { first = []; second = []; third = c ∷ cs } ∷ []

abbrev pub new_row : NamesText → ShownText → RowText
new_row names new = record { first = codes "+ " ++ new.place; second = label_of names.new new.described; third = words new.features }

abbrev pub old_row : NamesText → ShownText → RowText
old_row names old = record { first = codes "- " ++ old.place; second = label_of names.old old.described; third = words old.features }

abbrev pub changed_row : NamesText → ShownText → ShownText → List TurnedText → List Text → RowText
changed_row names old new comes goes =
    record { first = codes "~ " ++ new.place; second = changed_title names old.described new.described; third = marks comes goes }

abbrev pub rows_of : NamesText → DifferenceText → List RowText
rows_of names (come new why) = new_row names new ∷ why_rows why
rows_of names (gone old) = old_row names old ∷ []
rows_of names (changed old new comes goes) = changed_row names old new comes goes ∷ flat_map (λ t. why_rows t.why) comes

-- The lines of differences between plans of workspaces whose packages have these names and versions.
abbrev pub lines_by : List Text → List Text → List DifferenceText → Text
lines_by old new shown = table_of (flat_map (rows_of (record { old = old; new = new })) shown)

-- The lines of differences between plans of workspaces with these packages.
abbrev pub difference_lines : List PackageText → List PackageText → List DifferenceText → Text
difference_lines old new shown = lines_by (map name_of old) (map name_of new) shown
