use Rattle.std.proofs.Common.{sym, ◌∙◌}
use Rattle.feature_core.proofs.Released.{release_none, release_same, release_other}
use Rattle.feature_core.proofs.gates.released_at.Goals as goal

pub returns-in_err-releaser : goal.returns-in_err-releaser
returns-in_err-releaser c = c.from_residual.ensures ∙ release_none c.args.gate c.first_release-first.result c.args.place c.args.released.now c.requires c.first_release-first.ensures.begins (sym c.in_err-releaser.was ∙ c.release_from.ensures)

pub returns-then-releaser-gate : goal.returns-then-releaser-gate
returns-then-releaser-gate c = release_same c.args.gate c.first_release-first.result c.args.place c.args.released.now c.requires c.first_release-first.ensures.begins (c.in_ok-releaser.releaser, c.in_ok-releaser.edge) (sym c.in_ok-releaser.was ∙ c.release_from.ensures) c.if-releaser-gate.true

pub returns-else-releaser-gate : goal.returns-else-releaser-gate
returns-else-releaser-gate c = release_other c.args.gate c.first_release-first.result c.args.place c.args.released.now c.requires c.first_release-first.ensures.begins (c.in_ok-releaser.releaser, c.in_ok-releaser.edge) (sym c.in_ok-releaser.was ∙ c.release_from.ensures) c.if-releaser-gate.false
