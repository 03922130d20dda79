use Rattle.std.proofs.Common.{map}
use Rattle.cargo_workspaces.specs.Views.{package_text}
use Rattle.plan_starts.proofs.FirstLemmas.{word_fits}
use Rattle.plan_starts.proofs.unfit_words.unfit_name.Goals as goal

pub loop-word-preserved : goal.loop-word-preserved
loop-word-preserved c =
    word_fits (λ t. t.now) (map package_text c.args.packages.now) c.args.selected.now c.args.kind.now c.args.words.now c.loop-word.word-index _ c.have_called.result _
    c.loop-word-test.true c.have_called.ensures c.if-not-have_called.false c.loop-word.invariant
