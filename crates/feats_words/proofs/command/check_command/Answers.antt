use Rattle.std.proofs.Common.{codes}
use Rattle.feats_words.specs.Commands.{flag_rule, word_rule}
use Rattle.feats_words.proofs.command.check_command.Goals as goal

pub returns : goal.returns
returns c =
    let policy = c.with_arg-command.ensures _ (word_rule (codes "policy")) c.word.ensures.rule c.begun-command.ensures in
    let every = c.with_arg-command-2.ensures _ (flag_rule (codes "every-choice")) c.flag.ensures.rule policy in
    c.with_options.ensures _ (c.with_arg-command-3.ensures _ (flag_rule (codes "strict")) c.flag-2.ensures.rule every)
