use Rattle.std.proofs.Common.{[], ◌∷◌, ap, map}
use Rattle.json.specs.Token.{begin_object}
use Rattle.cargo_workspaces.specs.Views.{package_text}
use Rattle.feats_why.specs.ReasonedObjects.{reasons_member}
use Rattle.feats_why.specs.Settings.{settings_text}
use Rattle.plan_whys.specs.StepViews.{reason_text, spot_text}
use Rattle.feats_why.proofs.Members.{appends_same}
use Rattle.feats_why.proofs.Tokens.{appended, on_ok, wrote}
use Rattle.feats_why.proofs.reason_objects.write_reasoned.Goals as goal

pub returns : goal.returns
returns g c =
    let reasons = reasons_member (map package_text c.args.packages.now) (settings_text g.P.Platform.holds c.args.settings.now) (spot_text c.args.reasoned.now.step.at) in
    on_ok c.end_object.result (wrote _ _ _ _ c.end_object.ensures) (λ last.
    appended _ _ _ (begin_object ∷ []) _ (wrote _ _ _ _ c.in_ok-begin_object.ensures)
    (appended _ _ _ _ _ c.in_ok-write_step_members.ensures
    (appended _ _ _ _ _ (appends_same _ _ _ _ (ap (λ rs. reasons (map reason_text rs)) c.deref.ensures.value) c.in_ok-write_reasons.ensures) last)))
