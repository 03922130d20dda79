use Rattle.std.proofs.Common.{◌≡◌, ◌++◌, map, drop}
use Rattle.json.specs.Token.{string}
use Rattle.cargo_workspaces.specs.Views.{texts}
use Rattle.feats_lines.proofs.objects.write_texts.Given as goal

abbrev pub invariant-loop-feature : goal.invariant-loop-feature
invariant-loop-feature l = record {
  before : l.writer.before ≡ l.initial.writer.before;
  tokens : l.initial.writer.tokens ++ map string (texts l.features) ≡ l.writer.tokens ++ map string (texts (drop l.feature-index l.features));
}
