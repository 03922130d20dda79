use Rattle.std.proofs.Common.{◌≡◌, ◌++◌, flat_map, drop}
use Rattle.feats_report.specs.Numbers.{pair_tokens}
use Rattle.feats_report.proofs.numbers.write_each_pair.Given as goal

abbrev pub invariant-loop-pair : goal.invariant-loop-pair
invariant-loop-pair l = record {
  before : l.writer.before ≡ l.initial.writer.before;
  tokens : l.initial.writer.tokens ++ flat_map pair_tokens l.pairs ≡ l.writer.tokens ++ flat_map pair_tokens (drop l.pair-index l.pairs);
}
