use Rattle.std.proofs.Common.{map, take}
use Rattle.std.specs.String.{string_bytes}
use Rattle.feats_lines.specs.Repeats.{HasRepeated}
use Rattle.feats_lines.specs.inner.Sets.{HasTexts}
use Rattle.feats_lines.proofs.names.repeated_in.Given as goal

abbrev pub invariant-loop-name : goal.invariant-loop-name
invariant-loop-name l = record {
  seen : HasTexts l.seen (map string_bytes (take l.name-index l.names));
  repeated : HasRepeated l.repeated (map string_bytes (take l.name-index l.names));
}
