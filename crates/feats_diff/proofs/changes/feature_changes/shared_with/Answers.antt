use Rattle.std.proofs.Common.{◌∙◌}
use Rattle.cargo_workspaces.specs.Views.{texts}
use Rattle.feats_diff.proofs.Names.{ok_with, those_in}
use Rattle.feats_diff.proofs.changes.feature_changes.shared_with.Goals as goal

pub returns : goal.returns
returns c = ok_with _ _ c.shared.result c.shared.ensures (λ found is. is ∙ those_in c.in_ok-set.set (texts c.args.other.now.features.now) c.args.part.now.features.now c.in_ok-set.ensures)
