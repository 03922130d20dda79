-- The answer from what is printed by some scenes.
use Rattle.std.proofs.Common.{◌≡◌, ap, refl, inl, inr, subst, Bool, Option, Some, None, Result, Ok, Err}
use Rattle.std.specs.Prelude.{IfOk, IfErr}
use Rattle.std.proofs.lemmas.Result.{IfOk-weaker}
use Rattle.cargo_plans.specs.Plans.{IsPlanOf, WordsText}
use Rattle.cargo_plans.specs.WordsView.{words_text}
use Rattle.cargo_plans.specs.plan_steps.PlanViews.{plan_text}
use Rattle.cargo_workspaces.specs.Workspaces.{Text}
use Rattle.feats_files.specs.Messages.{Says}
use Rattle.feats_files.specs.declared.fault.Fault.{Fault}
use Rattle.cargo_plans.specs.plan_steps.Plans.{PlanText}
use Rattle.plan_rows.specs.platforms.HeldSpecs.{holds_on}
use Rattle.feats_check.specs.checking.Answers.{AreScenesOf, IsAnswerWith, IsRefusalWith, no_check, no_plan}
use Rattle.feats_check.specs.checking.Broken.{IsPolicyText, IsRulesRefusal}
use Rattle.feats_check.specs.checking.QuestionViews.{printed_text}
use Rattle.feats_check.specs.checking.Questions.{QuestionText}
use Rattle.feats_check.specs.checking.Scenes.{IsSceneBy, SceneText, ScenesText, all_words, scene_of, widest_words}
use Rattle.feats_check.specs.declared.checking.planned.WidePlans.{WidePlans}
use Rattle.feats_check.specs.declared.checking.planned.WideWords.{WideWords}
use Rattle.feats_check.specs.declared.checking.question.PolicyText.{PolicyText}
use Rattle.feats_check.specs.checking.inner.WidePlans.{AreWidePlans, IsNoWidePlan, scenes_with}
use Rattle.feats_policies.specs.declared.checks.judged.Judged.{Judged}
use Rattle.feats_policies.specs.declared.checks.judged.Judged.TheVariants.{ForEveryChoice, WithAll}
use Rattle.feats_check.proofs.Refusals.{says_more}

-- what follows from an error
pub err_more : {V : Type 0} (r : Result V Fault) (P Q : Text → Type 0) → ((m : Text) → P m → Q m) → IfErr r (λ f. Says f P) → IfErr r (λ f. Says f Q)
err_more (Ok v) P Q more h = tt
err_more (Err f) P Q more h = says_more f P Q more h

module _ (asked : QuestionText) (here : SceneText) (every : Option (Text → Bool)) (scenes : ScenesText) (are : AreScenesOf here asked every scenes) (r : Result PolicyText Fault) where
  pub answered : IfOk r (λ p. IsPolicyText asked scenes (printed_text p)) → IfOk r (λ p. IsAnswerWith here asked every (printed_text p))
  answered h = IfOk-weaker r _ _ (λ p is. record { scenes = scenes; are_scenes = are; is_text = is }) h

  pub unchecked : IfErr r (λ f. Says f (IsRulesRefusal asked scenes)) → IfErr r (λ f. Says f (IsRefusalWith here asked every))
  unchecked h = err_more r (IsRulesRefusal asked scenes) (IsRefusalWith here asked every) (λ m says. no_check scenes are says) h

-- the scenes without a choice
pub alone : (asked : QuestionText) (here : SceneText) → AreScenesOf here asked None (record { here = here; wide = None })
alone asked here = record { is_here = refl; are_wide = tt }

-- the scene of a plan of words that are equal
pub scene_by_words : (asked : QuestionText) (here : SceneText) (words given : WordsText) (plan : PlanText) (judged : Judged) → given ≡ words → IsPlanOf here.workspace given plan
    → IsSceneBy here asked words judged (scene_of here.workspace here.build.selected asked given plan judged)
scene_by_words asked here words given plan judged same is = record {
  plan = plan;
  is_plan = subst (λ z. IsPlanOf here.workspace z plan) same is;
  is_scene = ap (λ z. scene_of here.workspace here.build.selected asked z plan judged) same;
}

-- the scenes by the plans of wider words
pub are_wide_scenes : (asked : QuestionText) (here : SceneText) (every : Text → Bool) (words : WideWords) (plans : WidePlans)
    → words_text holds_on words.all ≡ all_words every here.words → words_text holds_on words.widest ≡ widest_words every here.words
    → AreWidePlans here.workspace words plans → AreScenesOf here asked (Some every) (scenes_with here asked words plans)
are_wide_scenes asked here every words plans all widest are = record {
  is_here = refl;
  are_wide = (
    scene_by_words asked here (all_words every here.words) (words_text holds_on words.all) (plan_text plans.all) WithAll all are.all,
    scene_by_words asked here (widest_words every here.words) (words_text holds_on words.widest) (plan_text plans.widest) ForEveryChoice widest are.widest,
  );
}

-- no plan of wider words
pub unplanned : (asked : QuestionText) (here : SceneText) (every : Text → Bool) (words : WideWords) (m : Text) → words_text holds_on words.all ≡ all_words every here.words
    → words_text holds_on words.widest ≡ widest_words every here.words → IsNoWidePlan here.workspace words m → IsRefusalWith here asked (Some every) m
unplanned asked here every words m all widest (inl is) = no_plan every refl (words_text holds_on words.all) (inl all) is
unplanned asked here every words m all widest (inr is) = no_plan every refl (words_text holds_on words.widest) (inr widest) is
