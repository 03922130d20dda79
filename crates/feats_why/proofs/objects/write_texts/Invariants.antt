use Rattle.std.proofs.Common.{◌≡◌, ◌++◌, map, drop}
use Rattle.json.specs.Token.{string}
use Rattle.cargo_workspaces.specs.Views.{texts}
use Rattle.feats_why.proofs.objects.write_texts.Given as goal

abbrev pub invariant-loop-platform : goal.invariant-loop-platform
invariant-loop-platform l = record {
  before : l.writer.before ≡ l.initial.writer.before;
  tokens : l.initial.writer.tokens ++ map string (texts l.platforms) ≡ l.writer.tokens ++ map string (texts (drop l.platform-index l.platforms));
}
