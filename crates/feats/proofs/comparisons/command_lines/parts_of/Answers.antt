use Rattle.std.proofs.Common.{◌≡◌, map, rules, tests}
use Rattle.std.proofs.lemmas.Iterator.Consumers.{map_from_collect}
use Rattle.std.proofs.lemmas.Iterator.Splits.{YieldsList-from_slice_split}
use Rattle.std.proofs.lemmas.Result.{IfOk-weaker}
use Rattle.std.specs.List.{slice_split}
use Rattle.feats.specs.comparisons.CommandLines.{is_mark}
use Rattle.feats.proofs.Marks.{borrowed}
use Rattle.feats.proofs.comparisons.command_lines.parts_of.Goals as goal

pub returns : goal.returns
returns c =
    let words = c.args.words.now in
    IfOk-weaker c.collect.result (λ parts. map (λ p. p.now) parts.items ≡ slice_split (λ w. is_mark w.now) words) _ (λ parts h. borrowed parts.items words h)
    (map_from_collect _ c.collect.ensures.ran
    (YieldsList-from_slice_split _ (λ w. is_mark w.now) words c.split.ensures.rest c.split.ensures.done c.split.ensures.closure (λ x r q k. search (rules, tests))))
