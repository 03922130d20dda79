use Rattle.std.proofs.Common.{codes}
use Rattle.feats_words.specs.Commands.{edges_rule, option_rule, short_rule}
use Rattle.feats_words.proofs.command.tree_command.Goals as goal

pub returns : goal.returns
returns c =
    let invert = c.with_arg-command.ensures _ (short_rule (codes "invert") 105) c.short.ensures.rule c.begun-command.ensures in
    let depth = c.with_arg-command-2.ensures _ (option_rule (codes "depth")) c.option.ensures.rule invert in
    c.with_options.ensures _ (c.with_arg.ensures _ edges_rule c.edges.ensures.rule depth)
