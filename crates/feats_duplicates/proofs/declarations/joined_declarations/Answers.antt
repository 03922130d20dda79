use Rattle.std.proofs.Common.{map}
use Rattle.cargo_workspaces.specs.Views.{declaration_text}
use Rattle.feats_duplicates.proofs.Lists.{mapped_more}
use Rattle.feats_duplicates.specs.Joined.{declaration_of, is_for}
use Rattle.feats_duplicates.specs.inner.JoinViews.{join_text}
use Rattle.feats_duplicates.proofs.declarations.joined_declarations.Goals as goal

pub loop-join-preserved : goal.loop-join-preserved
loop-join-preserved c =
    mapped_more join_text (is_for c.args.member) (declaration_of (map declaration_text c.args.declarations.now)) c.args.joins.now c.loop-join.join-index c.join-item.result _ _ _
    c.loop-join-test.true c.join-item.is c.loop-join.invariant c.in_ok-push_join.ensures
