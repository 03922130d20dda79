use Rattle.std.proofs.Common.{◌<◌, ◌≤◌, ◌∙◌, Bool, List, [], ◌∷◌, ap, arith, length, map, subst, sym}
use Rattle.std.proofs.lemmas.List.{take_all}
use Rattle.std.specs.List.{AllZip}
use Rattle.cargo_plans.specs.plan_steps.Plans.{PlanText}
use Rattle.cargo_plans.specs.plan_steps.PlanViews.{plan_text}
use Rattle.cargo_plans.specs.Plans.{IsPlanOf, WordsText}
use Rattle.cargo_workspaces.specs.Workspaces.{Text, WorkspaceText}
use Rattle.feats_words.specs.declared.command_arguments.Format.{Format}
use Rattle.feats_why_not.specs.Parts.{PartText}
use Rattle.feats_why_not.specs.Texts.{IsWhyNotText}
use Rattle.cargo_plans.specs.WordsView.{words_text}
use Rattle.cargo_workspaces.specs.WorkspaceView.{workspace_text}
use Rattle.plan_rows.specs.platforms.HeldSpecs.{holds_on}
use Rattle.plan_names.specs.wider.widenings.Widenings.{widened}
use Rattle.feats_why_not.specs.PartView.{part_text}
use Rattle.feats_why_not.specs.Texts.{IsSection, head_text}
use Rattle.feats_why_not.specs.inner.Lists.{texts_of}
use Rattle.plan_names.specs.declared.wider.widenings.widening.Widening.{Widening}
use Rattle.feats_why_not.specs.inner.Lists.{joined}
use Rattle.feats_why_not.proofs.Each.{IsSo, all_done, begun, each_step}
use Rattle.feats_why_not.proofs.Gathered.{AllAreSaid}
use Rattle.feats_why_not.proofs.texts.texts_about.Goals as goal

text_done : (form : Format) (alone : Bool) (w : WorkspaceText) (words : WordsText) (every : Text → Bool) (plan : PlanText) (is_plan : IsPlanOf w words plan) (parts : List PartText) (texts : List Text)
    → AllZip (λ part text. AllAreSaid (λ v t. IsSection form alone w words (widened every v words) v part t) (λ v s. s) (head_text form w words plan part) text) parts texts → AllZip (IsWhyNotText form alone w words every) parts texts
text_done form alone w words every plan is_plan [] [] so = tt
text_done form alone w words every plan is_plan [] (t ∷ ts) so = absurd so
text_done form alone w words every plan is_plan (p ∷ ps) [] so = absurd so
text_done form alone w words every plan is_plan (p ∷ ps) (t ∷ ts) so = (record { plan = plan; is_plan = is_plan; section = so.0.value; are_sections = so.0.have; is_text = so.0.is_all }, text_done form alone w words every plan is_plan ps ts so.1)

pub loop-widening-init : goal.loop-widening-init
loop-widening-init c =
    let w = workspace_text c.args.workspace.now in
    let alone = c.is_single.result in
    let words = words_text holds_on c.args.words.now in
    let every = holds_on c.args.every.now in
    begun (λ part v text. IsSection c.args.form alone w words (widened every v words) v part text) (head_text c.args.form w words (plan_text c.args.plan.now)) (map part_text c.args.parts.now) (texts_of c.in_ok-texts.texts.items) c.in_ok-texts.ensures

pub loop-widening-preserved : goal.loop-widening-preserved
loop-widening-preserved c =
    let w = workspace_text c.args.workspace.now in
    let alone = c.is_single.result in
    let words = words_text holds_on c.args.words.now in
    let every = holds_on c.args.every.now in
    let parts = map part_text c.args.parts.now in
    let vs = c.all-all.result in
    let i = c.loop-widening.widening-index in
    let within : i < length vs = subst (λ z. i < length z) (sym c.all-all.ensures) c.loop-widening-test.true in
    let given = c.in_ok-texts-2.ensures in
    each_step (λ part v text. IsSection c.args.form alone w words (widened every v words) v part text) (head_text c.args.form w words (plan_text c.args.plan.now)) vs i _ parts (texts_of c.loop-widening.texts.items) given.0 (texts_of c.in_ok-texts-2.texts.items) within c.loop-widening.invariant
    given.1
    (given.2 ∙ ap (λ ts. joined (texts_of ts) given.0) c.deref.ensures.value)

pub returns : goal.returns
returns c =
    let w = workspace_text c.args.workspace.now in
    let alone = c.is_single.result in
    let words = words_text holds_on c.args.words.now in
    let every = holds_on c.args.every.now in
    let parts = map part_text c.args.parts.now in
    let vs = c.all-all.result in
    let i = c.loop-widening.widening-index in
    let IsText = λ (part : PartText) (v : Widening) (text : Text). IsSection c.args.form alone w words (widened every v words) v part text in
    let beyond : length vs ≤ i = omega arith in
    let so = subst (λ z. AllZip (IsSo IsText (head_text c.args.form w words (plan_text c.args.plan.now)) z) parts (texts_of c.loop-widening.texts.items)) (take_all i vs beyond) c.loop-widening.invariant in
    subst (λ (b : Bool). AllZip (IsWhyNotText c.args.form b w words every) parts (texts_of c.loop-widening.texts.items)) c.is_single.ensures
    (text_done c.args.form alone w words every (plan_text c.args.plan.now) c.requires parts (texts_of c.loop-widening.texts.items)
    (all_done IsText (head_text c.args.form w words (plan_text c.args.plan.now)) vs parts (texts_of c.loop-widening.texts.items) c.all-all.ensures so))
