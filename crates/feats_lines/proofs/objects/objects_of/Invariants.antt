use Rattle.std.proofs.Common.{◌≡◌, ◌++◌, flat_map, map, drop}
use Rattle.feats_lines.specs.Objects.{object_line}
use Rattle.feats_lines.specs.Views.{shown_text}
use Rattle.feats_lines.proofs.objects.objects_of.Given as goal

abbrev pub invariant-loop-unit : goal.invariant-loop-unit
invariant-loop-unit l =
    flat_map object_line (map shown_text l.units) ≡ l.text.items ++ flat_map object_line (map shown_text (drop l.unit-index l.units))
