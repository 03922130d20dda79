use Rattle.std.proofs.Common.{codes}
use Rattle.feats_words.specs.Commands.{flag_rule, optional_word_rule}
use Rattle.feats_words.proofs.command.list_command.Goals as goal

pub returns : goal.returns
returns c =
    let spec = c.with_arg-command.ensures _ (optional_word_rule (codes "spec")) c.optional_word.ensures.rule c.begun-command.ensures in
    c.with_options.ensures _ (c.with_arg-command-2.ensures _ (flag_rule (codes "unused")) c.flag.ensures.rule spec)
