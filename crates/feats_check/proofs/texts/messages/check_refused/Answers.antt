use Rattle.std.proofs.Common.{◌≡◌, List, map, subst, sym}
use Rattle.cargo_workspaces.specs.Workspaces.{Text}
use Rattle.feats_files.specs.Messages.{Says}
use Rattle.plan_names.specs.Views.{named_text}
use Rattle.plan_names.specs.declared.named.Named.{Named}
use Rattle.feats_policies.specs.checks.Views.{build_text, refusal_text}
use Rattle.feats_policies.specs.declared.checks.fault.CheckFault.{CheckFault}
use Rattle.feats_check.specs.texts.Messages.{IsCheckMessage, platform_message, several_message}
use Rattle.feats_check.proofs.texts.messages.check_refused.Goals as goal

pub returns-in-Several : goal.returns-in-Several
returns-in-Several c =
    let b = build_text c.args.build in
    let said = λ (candidates : List Named). several_message b.packages c.args.file.now c.in-Several.line c.in-Several.word.now (map named_text candidates) in
    subst (λ (f : CheckFault). Says c.listed_by.result (IsCheckMessage b c.args.file.now (refusal_text f))) (sym c.in-Several.is)
    (subst (λ (candidates : List Named). Says c.listed_by.result (λ (message : Text). message ≡ said candidates)) c.deref.ensures.value
    (c.listed_by.ensures (said c.deref.result.now) c.several_message.ensures))

pub returns-in-NoPlatform : goal.returns-in-NoPlatform
returns-in-NoPlatform c =
    let b = build_text c.args.build in
    subst (λ (f : CheckFault). Says c.listed_by-in-NoPlatform.result (IsCheckMessage b c.args.file.now (refusal_text f))) (sym c.in-NoPlatform.is)
    (c.listed_by-in-NoPlatform.ensures (platform_message b c.args.file.now c.in-NoPlatform.line c.in-NoPlatform.triple.now) c.platform_message.ensures)
