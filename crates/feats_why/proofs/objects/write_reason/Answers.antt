use Rattle.plan_whys.specs.StepViews.{reason_text, spot_text}
use Rattle.std.proofs.Common.{◌∙◌, ap, map}
use Rattle.cargo_workspaces.specs.Views.{package_text, texts}
use Rattle.feats_why.specs.Objects.{reason_word}
use Rattle.feats_why.proofs.Members.{appends_same, reason_same}
use Rattle.feats_why.proofs.Tokens.{appended, on_ok}
use Rattle.feats_why.proofs.objects.write_reason.Goals as goal

pub returns : goal.returns
returns c = on_ok c.write_platforms.result c.write_platforms.ensures (λ last.
    appends_same _ _ _ _
    (reason_same (map package_text c.args.packages.now) (texts c.args.platforms.now) (spot_text c.args.at) (reason_text c.args.reason) _ _ _
    (c.reason_word.ensures ∙ ap reason_word c.relation_of.ensures) c.shown_start.ensures c.shown_gate.ensures)
    (appended _ _ _ _ _ c.in_ok-write_member.ensures (appended _ _ _ _ _ c.in_ok-write_spot_member.ensures (appended _ _ _ _ _ c.in_ok-write_spot_member-2.ensures last))))
