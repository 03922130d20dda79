use Rattle.plan_whys.specs.StepViews.{spot_text}
use Rattle.std.proofs.Common.{map}
use Rattle.cargo_workspaces.specs.Views.{package_text}
use Rattle.feats_why.proofs.Members.{appends_same, spot_same}
use Rattle.feats_why.proofs.Tokens.{appended, on_ok}
use Rattle.feats_why.proofs.objects.write_spot.Goals as goal

pub returns : goal.returns
returns c = on_ok c.write_member-2.result c.write_member-2.ensures (λ last.
    appends_same _ _ _ _ (spot_same (map package_text c.args.packages.now) (spot_text c.args.spot) _ _ _ _ c.id_at.ensures c.feature_name.ensures c.dependency_name.ensures c.side_word.ensures)
    (appended _ _ _ _ _ c.in_ok-write_member.ensures (appended _ _ _ _ _ c.in_ok-write_optional.ensures (appended _ _ _ _ _ c.in_ok-write_optional-2.ensures last))))
