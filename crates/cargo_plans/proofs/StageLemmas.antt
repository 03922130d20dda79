-- The stages of a plan.
use Rattle.std.proofs.Common.{◌≡◌, ℕ, List, Result, Ok, Err, None, refl, subst, sym}
use Rattle.std.specs.Prelude.{IfOk}
use Rattle.std.proofs.lemmas.Result.{IfOk-weaker}
use Rattle.cargo_workspaces.specs.Workspaces.{PackageText, WorkspaceText}
use Rattle.plan_rows.specs.Steps.{SettingsText}
use Rattle.plan_starts.specs.PackageVisits.{PairVisit}
use Rattle.plan_starts.specs.Starts.{starts_of}
use Rattle.plan_starts.specs.StartViews.{starts_text}
use Rattle.plan_starts.specs.declared.starts.Starts.{Starts as Found}
use Rattle.cargo_plans.specs.plan_steps.Plans.{IsOn, IsPlan, IsResolved, PlanText, starts_by, without_targets, without_tests}
use Rattle.cargo_plans.specs.plan_steps.PlanViews.{IsRefused, Plans}
use Rattle.cargo_plans.specs.declared.plan_steps.fault.StepFault.{StepFault}
use Rattle.cargo_plans.specs.declared.plan_steps.fault.StepFault.TheVariants as fault
use Rattle.cargo_plans.specs.declared.plan_steps.plan.Plan.{Plan}
use Rattle.cargo_plans.specs.declared.plan_steps.stages.Built.{Built}
use Rattle.cargo_plans.specs.plan_steps.inner.Stages.{Builds, Planned, Stops}

module _ {E : Type 0} where
  pub started_by : (w : WorkspaceText) (s : SettingsText) (selected : List ℕ) (kept on : PairVisit) (packages : List PackageText) (r : Result Found E) → packages ≡ w.packages
      → IfOk r (λ found. starts_text found ≡ starts_of (record { settings = s; packages = packages; kept = kept; on = on }) selected) → IfOk r (λ found. starts_text found ≡ starts_by w s selected kept on)
  unfolding starts_by
  started_by w s selected kept on packages r same =
      IfOk-weaker r _ _ (λ found is. subst (λ (ps : List PackageText). starts_text found ≡ starts_of (record { settings = s; packages = ps; kept = kept; on = on }) selected) same is)

-- why there is no plan, by the visits of the first two steps
pub stopped : (w : WorkspaceText) (s : SettingsText) (selected : List ℕ) (kept on : PairVisit) (e : StepFault) → without_tests w s selected ≡ None → without_targets w s selected ≡ None → IsResolved w s kept → IsOn w s kept on
    → Stops w s on (starts_by w s selected kept on) e → IsRefused w s selected e
stopped w s selected kept on (fault.NoTests p) tests targets resolved turned stops = absurd stops
stopped w s selected kept on (fault.NoTarget word) tests targets resolved turned stops = absurd stops
stopped w s selected kept on (fault.Unmet p t) tests targets resolved turned stops = record { have_tests = tests; have_targets = targets; kept = kept; on = on; is_resolved = resolved; is_turned_on = turned; holds = stops }
stopped w s selected kept on (fault.NotOn p side) tests targets resolved turned stops = record { have_tests = tests; have_targets = targets; kept = kept; on = on; is_resolved = resolved; is_turned_on = turned; holds = stops }
stopped w s selected kept on (fault.Lacking p name) tests targets resolved turned stops = record { have_tests = tests; have_targets = targets; kept = kept; on = on; is_resolved = resolved; is_turned_on = turned; holds = stops }
stopped w s selected kept on fault.Memory tests targets resolved turned stops = tt

-- the plan, or why there is none, by the visits of the first two steps
pub planned_so : (w : WorkspaceText) (s : SettingsText) (selected : List ℕ) (kept on : PairVisit) (built : Result Built StepFault) (r : Result Plan StepFault) → without_tests w s selected ≡ None → without_targets w s selected ≡ None → IsResolved w s kept → IsOn w s kept on
    → Builds w s on (starts_by w s selected kept on) built → Planned on built r → Plans w s selected r
planned_so w s selected kept on (Ok built) (Ok plan) tests targets resolved turned builds made =
    subst (λ (p : PlanText). IsPlan w s selected p) (sym made) (record { have_tests = tests; have_targets = targets; kept = kept; on = on; is_resolved = resolved; is_turned_on = turned; holds = (refl, builds.0, builds.1) })
planned_so w s selected kept on (Ok built) (Err e) tests targets resolved turned builds made = absurd made
planned_so w s selected kept on (Err e) (Ok plan) tests targets resolved turned builds made = absurd made
planned_so w s selected kept on (Err e) (Err f) tests targets resolved turned builds made =
    subst (λ (z : StepFault). IsRefused w s selected z) (sym made) (stopped w s selected kept on e tests targets resolved turned builds)
