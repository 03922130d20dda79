use Rattle.std.proofs.Common.{codes}
use Rattle.feats_words.specs.Commands.{flag_rule}
use Rattle.feats_words.proofs.command.duplicates_command.Goals as goal

pub returns : goal.returns
returns c =
    let both = c.with_arg-command.ensures _ (flag_rule (codes "alone")) c.flag.ensures.rule c.begun-command.ensures in
    c.with_options.ensures _ (c.with_arg-command-2.ensures _ (flag_rule (codes "places")) c.flag-2.ensures.rule both)
