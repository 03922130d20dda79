use Rattle.std.proofs.Common.{◌∙◌, List, ap, map}
use Rattle.plan_names.specs.Names.{NamedText}
use Rattle.plan_names.specs.Views.{named_text}
use Rattle.plan_names.specs.declared.named.Named.{Named}
use Rattle.feats_policies.specs.checks.Found.{denied_at}
use Rattle.feats_policies.specs.checks.Meanings.{meaning_in}
use Rattle.feats_policies.specs.checks.Spots.{spots_on_for}
use Rattle.feats_policies.specs.checks.Views.{build_text}
use Rattle.feats_policies.proofs.Meant.{of_several, of_these}
use Rattle.feats_policies.proofs.checks.found.denied_for.Goals as goal

pub returns-in_ok-spots_on_for-in-Parts : goal.returns-in_ok-spots_on_for-in-Parts
returns-in_ok-spots_on_for-in-Parts c =
    let b = build_text c.args.build in
    let f = λ (parts : List NamedText). denied_at (spots_on_for b c.args.triple.now parts) in
    c.denied_at.ensures
    ∙ ap denied_at (c.in_ok-spots_on_for-in-Parts.ensures ∙ ap (λ (parts : List Named). spots_on_for b c.args.triple.now (map named_text parts)) c.deref.ensures.value)
    ∙ of_these f c.in_ok-parts.field-0 (meaning_in b c.args.word.now) c.in-Parts.parts c.in_ok-parts.ensures c.in-Parts.is

pub returns-in-Several : goal.returns-in-Several
returns-in-Several c =
    let b = build_text c.args.build in
    let f = λ (parts : List NamedText). denied_at (spots_on_for b c.args.triple.now parts) in
    of_several f c.in_ok-parts.field-0 (meaning_in b c.args.word.now) c.in-Several.word c.in-Several.candidates c.in_ok-parts.ensures c.in-Several.is
