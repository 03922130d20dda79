use Rattle.std.proofs.Common.{◌≡◌, ◌++◌, map, drop}
use Rattle.feats_report.specs.Numbers.{number_token}
use Rattle.feats_report.proofs.numbers.write_each.Given as goal

abbrev pub invariant-loop-number : goal.invariant-loop-number
invariant-loop-number l = record {
  before : l.writer.before ≡ l.initial.writer.before;
  tokens : l.initial.writer.tokens ++ map number_token l.numbers ≡ l.writer.tokens ++ map number_token (drop l.number-index l.numbers);
}
