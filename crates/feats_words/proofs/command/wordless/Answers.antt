use Rattle.feats_words.proofs.command.wordless.Goals as goal

pub returns : goal.returns
returns c = c.with_options.ensures _ c.begun.ensures
