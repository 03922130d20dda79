use Rattle.std.proofs.Common.{◌∙◌, List, ap, map}
use Rattle.plan_names.specs.Names.{NamedText}
use Rattle.plan_names.specs.Views.{named_text}
use Rattle.plan_names.specs.declared.named.Named.{Named}
use Rattle.plan_whys.specs.StepViews.{spot_text}
use Rattle.feats_policies.specs.checks.Found.{required_at}
use Rattle.feats_policies.specs.checks.Meanings.{meaning_in}
use Rattle.feats_policies.specs.checks.Spots.{spots_on}
use Rattle.feats_policies.specs.checks.Views.{build_text}
use Rattle.feats_policies.proofs.Meant.{of_several, of_these}
use Rattle.feats_policies.proofs.checks.found.required.Goals as goal

pub returns-in_ok-spots-in-Parts : goal.returns-in_ok-spots-in-Parts
returns-in_ok-spots-in-Parts c =
    let b = build_text c.args.build in
    let f = λ (parts : List NamedText). required_at (spots_on b parts) in
    c.required_at.ensures
    ∙ ap required_at (ap (map spot_text) c.deref-in-Parts.ensures.value ∙ c.in_ok-spots-in-Parts.ensures ∙ ap (λ (parts : List Named). spots_on b (map named_text parts)) c.deref.ensures.value)
    ∙ of_these f c.in_ok-parts.field-0 (meaning_in b c.args.word.now) c.in-Parts.parts c.in_ok-parts.ensures c.in-Parts.is

pub returns-in-Several : goal.returns-in-Several
returns-in-Several c =
    let b = build_text c.args.build in
    let f = λ (parts : List NamedText). required_at (spots_on b parts) in
    of_several f c.in_ok-parts.field-0 (meaning_in b c.args.word.now) c.in-Several.word c.in-Several.candidates c.in_ok-parts.ensures c.in-Several.is
