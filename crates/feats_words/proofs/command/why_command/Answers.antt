use Rattle.std.proofs.Common.{codes}
use Rattle.feats_words.specs.Commands.{flag_rule, word_rule}
use Rattle.feats_words.proofs.command.why_command.Goals as goal

pub returns : goal.returns
returns c =
    let feature = c.with_arg-command.ensures _ (word_rule (codes "feature")) c.word.ensures.rule c.begun-command.ensures in
    let all = c.with_arg-command-2.ensures _ (flag_rule (codes "all")) c.flag.ensures.rule feature in
    c.with_options.ensures _ (c.with_arg-command-3.ensures _ (flag_rule (codes "routes")) c.flag-2.ensures.rule all)
