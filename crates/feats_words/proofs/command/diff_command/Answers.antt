use Rattle.std.proofs.Common.{codes}
use Rattle.feats_words.specs.Commands.{option_rule, report_rule, word_rule}
use Rattle.feats_words.proofs.command.diff_command.Goals as goal

pub returns : goal.returns
returns c =
    let old = c.with_arg-command.ensures _ (word_rule (codes "old")) c.word.ensures.rule c.begun-command.ensures in
    let new = c.with_arg-command-2.ensures _ (word_rule (codes "new")) c.word-2.ensures.rule old in
    let manifest = c.with_arg-command-3.ensures _ (option_rule (codes "old-manifest")) c.option.ensures.rule new in
    c.with_common.ensures _ (c.with_arg-command-4.ensures _ report_rule c.report_flag.ensures.rule manifest)
