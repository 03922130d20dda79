use Rattle.std.proofs.Common.{◌≡◌, ◌++◌, flat_map, map, drop}
use Rattle.cargo_workspaces.specs.Views.{package_text}
use Rattle.feats_duplicates.specs.Views.{member_unit_text}
use Rattle.feats_duplicate_lines.specs.Shown.{row_at}
use Rattle.feats_duplicate_lines.specs.Views.{shown_text}
use Rattle.feats_duplicate_lines.proofs.alone.push_rows.Given as goal

abbrev pub invariant-loop-row : goal.invariant-loop-row
invariant-loop-row l =
    let f = row_at (map package_text l.packages) l.place (package_text l.«package») in
    map shown_text l.initial.shown.items ++ flat_map f (map member_unit_text l.rows) ≡ map shown_text l.shown.items ++ flat_map f (map member_unit_text (drop l.row-index l.rows))
