use Rattle.feats_words.specs.Commands.{edges_rule}
use Rattle.feats_words.proofs.command.dot_command.Goals as goal

pub returns : goal.returns
returns c = c.with_options.ensures _ (c.with_arg.ensures _ edges_rule c.edges.ensures.rule c.begun-command.ensures)
