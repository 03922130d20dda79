-- The values that Rust's types contain.
use Rattle.std.specs.Prelude.{map}
use Rattle.cargo_workspaces.specs.Views.{package_text, texts}
use Rattle.feats_diff.specs.changes.Changes.{ChangeText}
use Rattle.feats_diff.specs.changes.Differences.{DifferencesText}
use Rattle.feats_diff.specs.changes.Parts.{PartText}
use Rattle.feats_diff.specs.declared.changes.comparing.Differences.{Differences}
use Rattle.feats_diff.specs.declared.changes.feature_changes.Change.{Change}
use Rattle.feats_diff.specs.declared.changes.matches.Pair.{Pair}
use Rattle.feats_diff.specs.declared.changes.parts.Part.{Part}

abbrev pub part_text : Part → PartText
part_text p = record { unit = p.unit; place = p.place.now; described = package_text p.«package».now; features = texts p.features.now; rank = p.rank }

abbrev pub pair_text : Pair → PartText × PartText
pair_text p = (part_text p.old, part_text p.new)

abbrev pub change_text : Change → ChangeText
change_text c = record { old = part_text c.old; new = part_text c.new; comes = texts c.comes.items; goes = texts c.goes.items; stays = texts c.stays.items }

abbrev pub differences_text : Differences → DifferencesText
differences_text d = record {
  comes = map part_text d.comes.items;
  gone = map part_text d.gone.items;
  moved = map change_text d.moved.items;
  kept = map change_text d.kept.items;
}
