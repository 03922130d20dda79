use Rattle.std.proofs.Common.{map, take}
use Rattle.cargo_workspaces.specs.Views.{package_text}
use Rattle.feats_lines.specs.Repeats.{HasRepeated}
use Rattle.feats_lines.specs.inner.Sets.{HasTexts}
use Rattle.feats_lines.proofs.names.repeated_names.Given as goal

abbrev pub invariant-loop-package : goal.invariant-loop-package
invariant-loop-package l = record {
  seen : HasTexts l.seen (map (λ p. p.name) (map package_text (take l.package-index l.packages)));
  repeated : HasRepeated l.repeated (map (λ p. p.name) (map package_text (take l.package-index l.packages)));
}
