use Rattle.std.proofs.Common.{refl}
use Rattle.feats_words.proofs.command.worded.Goals as goal

pub returns : goal.returns
returns c = c.with_options.ensures _ (c.with_arg.ensures _ _ refl c.begun.ensures)
