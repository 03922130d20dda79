use Rattle.std.proofs.Common.{◌≡◌, ◌++◌, map, drop}
use Rattle.json.specs.Token.{string}
use Rattle.feats_lines.proofs.parts.members.write_strings.Given as goal

abbrev pub invariant-loop-value : goal.invariant-loop-value
invariant-loop-value l = record {
  before : l.writer.before ≡ l.initial.writer.before;
  tokens : l.initial.writer.tokens ++ map string (map (λ t. t.now) l.values) ≡ l.writer.tokens ++ map string (map (λ t. t.now) (drop l.value-index l.values));
}
