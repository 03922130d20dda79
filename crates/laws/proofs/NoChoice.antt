-- What is off with all widenings together is off in the plan of the widest words.
use Rattle.std.proofs.Common.{◌≡◌, ℕ, Bool, true, false, Option, None, Some, refl}
use Rattle.std.specs.Prelude.{◌||◌, Contains, IsFalse}
use Rattle.feature_labels.specs.Names.{LabelName}
use Rattle.cargo_workspaces.specs.Workspaces.{DeclarationText, PackageText, Text, WorkspaceText}
use Rattle.plan_rows.specs.Steps.{admits}
use Rattle.plan_rows.specs.declared.side.Side.TheVariants.{Host, Target}
use Rattle.cargo_plans.specs.plan_starts.PackageVisits.{is_on}
use Rattle.cargo_plans.specs.plan_steps.Plans.{PlanText}
use Rattle.cargo_plans.specs.Plans.{WordsText}
use Rattle.laws.specs.plans.Widening.{IsOffInPlan, IsWidest, NoSelectionTurnsOn}
use Rattle.plan_names.specs.wider.widenings.Findings.{are_some, sides_of}
use Rattle.plan_names.specs.wider.widenings.Widenings.{widened}
use Rattle.plan_names.specs.declared.wider.widenings.widening.Widening.TheVariants as widening
use Rattle.laws.specs.plans.NoChoice.{HoldsEach, NoChoiceTurnsOn}
use Rattle.laws.proofs.DeclaredSpecs.{left_true, named}

-- each declaration applies where each spec of the workspace holds
applies : (w : WorkspaceText) (every : Text → Bool) → HoldsEach w every → (x : PackageText) → Contains w.packages x → (d : DeclarationText) → Contains x.declarations d → admits every d.platform ≡ true
applies w every each x c d i = go d.platform refl
  where
    go : (o : Option Text) → d.platform ≡ o → admits every o ≡ true
    go None e = refl
    go (Some text) e = each text (named text w.packages x d c i e)

together_widest : (w : WorkspaceText) (words : WordsText) (every : Text → Bool) → HoldsEach w every → IsWidest w (widened every widening.Together words)
together_widest w words every each = record {
  selection = refl;
  development = refl;
  host = λ x c d i. applies w every each x c d i;
  targets = λ x c d i. left_true (admits every d.platform) false (applies w every each x c d i);
}

either_false : (a b : Bool) → (a || b) ≡ false → (a ≡ false) × (b ≡ false)
either_false true b h = absurd (cc)
either_false false b h = (refl, h)

off_on_both : (q : PlanText) (k : ℕ) (label : LabelName) → IsFalse (are_some (sides_of q.on k label)) → IsOffInPlan q k label
off_on_both q k label h Target = (either_false (is_on q.on Target k label) (is_on q.on Host k label) h).0
off_on_both q k label h Host = (either_false (is_on q.on Target k label) (is_on q.on Host k label) h).1

pub no_choice_turns_on : NoSelectionTurnsOn → NoChoiceTurnsOn
no_choice_turns_on law w words every is each k label off others plan covered made =
    law w (widened every widening.Together words) off.plan is (together_widest w words every each) off.is_plan k label (off_on_both off.plan k label off.is_off) others plan
    (record { split = covered.split; features = covered.features }) made
