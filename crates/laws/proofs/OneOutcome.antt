-- A plan excludes refusals.
use Rattle.std.proofs.Common.{◌≡◌, ℕ, List, Bool, true, Option, None, Some, Result, Ok, Err, refl, ap, ap₂, sym, ◌∙◌, subst, if◌then◌else◌}
use Rattle.std.specs.Prelude.{◌&&◌, ◌||◌, not, option_and_then, option_map}
use Rattle.std.specs.List.{list_any}
use Rattle.std.specs.Option.{option_or}
use Rattle.feature_labels.specs.Names.LabelName.{base, named}
use Rattle.cargo_workspaces.specs.Workspaces.{DeclarationText, FeatureText, PackageText, Text, WorkspaceText}
use Rattle.plan_rows.specs.Commands.{command_of}
use Rattle.plan_rows.specs.Steps.{SettingsText, side_of}
use Rattle.plan_rows.specs.Tables.{flag_at}
use Rattle.plan_rows.specs.declared.side.Side.{Side}
use Rattle.plan_rows.specs.declared.side.Side.TheVariants.{Target, Host}
use Rattle.cargo_plans.specs.plan_starts.Lists.{first_from, first_some}
use Rattle.cargo_plans.specs.plan_starts.PackageVisits.{PairVisit, reaches_at}
use Rattle.cargo_plans.specs.plan_starts.Starts.{Starts}
use Rattle.cargo_plans.specs.plan_starts.UnfitWords.{unfit_text}
use Rattle.cargo_plans.specs.plan_units.Lacking.{absent_of, is_absent}
use Rattle.plan_words.specs.Choices.{ChosenText}
use Rattle.plan_words.specs.Refusals.{Refusal, refusal_of}
use Rattle.cargo_plans.specs.plan_steps.PlanViews.{IsRefused}
use Rattle.cargo_plans.specs.plan_steps.Plans.{IsPlan, PlanText, lacks, not_on, starts_by, without_targets, without_tests}
use Rattle.cargo_plans.specs.declared.plan_steps.fault.StepFault.{StepFault}
use Rattle.cargo_plans.specs.declared.plan_steps.fault.StepFault.TheVariants as step
use Rattle.cargo_plans.specs.Plans.{AfterWords, IsPlanOf, WordsText, settings_by}
use Rattle.cargo_plans.specs.Refusals.{IsRefusal}
use Rattle.cargo_plans.specs.declared.fault.PlanFault.{PlanFault}
use Rattle.cargo_plans.specs.declared.fault.PlanFault.TheVariants as fault
use Rattle.laws.specs.plans.Laws.{PlanExcludesRefusal, PlanOfWordsExcludesRefusal}
use Rattle.laws.proofs.OnePlan.{Test, VisitsAgree, on_by, same_kept, same_on, same_starts, starts_are}

abbrev missing_by : Bool → List PackageText → Test → Starts → Option (ℕ × Side)
missing_by split packages on s =
    first_from (λ p x. option_map (λ side. (p, side)) (if flag_at s.macros p && not (on_by on (side_of split true) p base) then Some (side_of split true)
    else if flag_at s.others p && not (on_by on Target p base) then Some Target
    else None)) 0 packages

abbrev lack_by : Test → ℕ → List DeclarationText → FeatureText → Option Text
lack_by on p ds f = if on_by on Target p (named f.name) || on_by on Host p (named f.name) then first_some (absent_of ds) f.items else None

abbrev lacking_by : List (Option FeatureText) → List PackageText → Test → Option (ℕ × Text)
lacking_by commands packages on =
    first_from (λ p x. option_map (λ name. (p, name)) (if list_any is_absent x.declarations then
    option_or (first_some (lack_by on p x.declarations) x.features) (option_and_then (lack_by on p x.declarations) (command_of commands p))
    else None)) 0 packages

same_missing : (w : WorkspaceText) (s : SettingsText) (o m : PairVisit) (f g : Starts) → ◌≡◌ {A = Test} (reaches_at o) (reaches_at m) → f ≡ g → not_on w s o f ≡ not_on w s m g
unfolding not_on
same_missing w s o m f g on from = ap₂ (missing_by s.split w.packages) on from

same_lacks : (w : WorkspaceText) (s : SettingsText) (o m : PairVisit) → ◌≡◌ {A = Test} (reaches_at o) (reaches_at m) → lacks w s o ≡ lacks w s m
unfolding lacks
same_lacks w s o m on = ap (lacking_by s.commands w.packages) on

some_none : {X : Type 0} (o p : Option X) (x : X) → o ≡ p → o ≡ None → p ≡ Some x → ⊥
some_none o p x same none some = let clash : ◌≡◌ {A = Option _} None (Some x) = sym none ∙ same ∙ some in cc

module _ (one : VisitsAgree) (w : WorkspaceText) (s : SettingsText) (selected : List ℕ) where
  same_from : (k j o m : PairVisit) → ◌≡◌ {A = Test} (reaches_at k) (reaches_at j) → ◌≡◌ {A = Test} (reaches_at o) (reaches_at m) → starts_by w s selected k o ≡ starts_by w s selected j m
  same_from k j o m kept on = starts_are w s selected k o ∙ same_starts s w.packages selected k j o m kept on ∙ sym (starts_are w s selected j m)

  same_not_on : (k j o m : PairVisit) → ◌≡◌ {A = Test} (reaches_at k) (reaches_at j) → ◌≡◌ {A = Test} (reaches_at o) (reaches_at m) → not_on w s o (starts_by w s selected k o) ≡ not_on w s m (starts_by w s selected j m)
  same_not_on k j o m kept on = same_missing w s o m (starts_by w s selected k o) (starts_by w s selected j m) on (same_from k j o m kept on)

  excludes : (p : PlanText) (e : StepFault) → IsPlan w s selected p → IsRefused w s selected e → e ≡ step.Memory
  excludes p (step.NoTests q) a b = absurd (some_none (without_tests w s selected) (without_tests w s selected) q refl a.have_tests b)
  excludes p (step.NoTarget word) a b = absurd (some_none (without_targets w s selected) (without_targets w s selected) (unfit_text word) refl a.have_targets b.1)
  excludes p (step.Unmet q t) a b =
      let kept = same_kept one w s a.kept b.kept a.is_resolved b.is_resolved in
      let on = same_on one w s a.kept b.kept a.on b.on kept a.is_turned_on b.is_turned_on in
      absurd (some_none (starts_by w s selected a.kept a.on).unmet (starts_by w s selected b.kept b.on).unmet (q, t) (ap (λ (f : Starts). f.unmet) (same_from a.kept b.kept a.on b.on kept on)) a.holds.1.0 b.holds)
  excludes p (step.NotOn q side) a b =
      let kept = same_kept one w s a.kept b.kept a.is_resolved b.is_resolved in
      let on = same_on one w s a.kept b.kept a.on b.on kept a.is_turned_on b.is_turned_on in
      absurd (some_none (not_on w s a.on (starts_by w s selected a.kept a.on)) (not_on w s b.on (starts_by w s selected b.kept b.on)) (q, side) (same_not_on a.kept b.kept a.on b.on kept on) a.holds.1.1 b.holds.1)
  excludes p (step.Lacking q name) a b =
      let kept = same_kept one w s a.kept b.kept a.is_resolved b.is_resolved in
      let on = same_on one w s a.kept b.kept a.on b.on kept a.is_turned_on b.is_turned_on in
      absurd (some_none (lacks w s a.on) (lacks w s b.on) (q, name.now) (same_lacks w s a.on b.on on) a.holds.1.2 b.holds.2)
  excludes p step.Memory a b = refl

pub plan_excludes : VisitsAgree → PlanExcludesRefusal
plan_excludes one w s selected p e a b = excludes one w s selected p e a b

same_chosen : (c d : ChosenText) → ◌≡◌ {A = Result ChosenText Refusal} (Ok c) (Ok d) → c ≡ d
same_chosen c d h = cc

clash : (c : ChosenText) (r : Refusal) → ◌≡◌ {A = Result ChosenText Refusal} (Ok c) (Err r) → ⊥
clash c r h = cc

abbrev is_memory : StepFault → Type 0
is_memory (step.NoTests q) = ⊥
is_memory (step.NoTarget word) = ⊥
is_memory (step.Unmet q t) = ⊥
is_memory (step.NotOn q side) = ⊥
is_memory (step.Lacking q name) = ⊥
is_memory step.Memory = Unit {0}

module _ (one : VisitsAgree) (w : WorkspaceText) (words : WordsText) (p : PlanText) (a : IsPlanOf w words p) where
  -- a refusal of the steps by which the words are refused
  refused : (e : StepFault) → AfterWords w words (λ chosen. IsRefused w (settings_by words chosen) chosen.selected e) → is_memory e
  refused e b =
      let same : b.chosen ≡ a.chosen = same_chosen b.chosen a.chosen (sym b.are_accepted ∙ a.are_accepted) in
      let moved : IsRefused w (settings_by words a.chosen) a.chosen.selected e = subst (λ (c : ChosenText). IsRefused w (settings_by words c) c.selected e) same b.holds in
      subst is_memory (sym (excludes one w (settings_by words a.chosen) a.chosen.selected p e a.holds moved)) tt

  of_words : (e : PlanFault) → IsRefusal w words e → e ≡ fault.Steps step.Memory
  of_words (fault.Words e) b = absurd (clash a.chosen (refusal_of e) (sym a.are_accepted ∙ b))
  of_words (fault.Steps (step.NoTests q)) b = absurd (refused (step.NoTests q) b)
  of_words (fault.Steps (step.NoTarget word)) b = absurd (refused (step.NoTarget word) b)
  of_words (fault.Steps (step.Unmet q t)) b = absurd (refused (step.Unmet q t) b)
  of_words (fault.Steps (step.NotOn q side)) b = absurd (refused (step.NotOn q side) b)
  of_words (fault.Steps (step.Lacking q name)) b = absurd (refused (step.Lacking q name) b)
  of_words (fault.Steps step.Memory) b = refl

pub plan_of_words_excludes : VisitsAgree → PlanOfWordsExcludesRefusal
plan_of_words_excludes one w words p e a b = of_words one w words p a e b
