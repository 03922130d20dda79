-- The texts of steps that were found, spot by spot.
use Rattle.std.proofs.Common.{◌≡◌, subst, List, [], ◌∷◌, map, Option}
use Rattle.std.specs.Prelude.{Bool}
use Rattle.std.specs.Global.{Vec}
use Rattle.std.specs.List.{AllZip}
use Rattle.cargo_plans.specs.Plans.{WordsText, settings_by}
use Rattle.cargo_workspaces.specs.Workspaces.{Text, WorkspaceText}
use Rattle.feats_words.specs.declared.command_arguments.Format.{Format}
use Rattle.cargo_plans.specs.plan_steps.Plans.{PlanText}
use Rattle.plan_whys.specs.StepViews.{found_text, spot_text}
use Rattle.plan_whys.specs.Steps.{SpotText}
use Rattle.plan_whys.specs.Whys.{Answers, AnswersEachBy}
use Rattle.plan_whys.specs.declared.steps.Spot.{Spot}
use Rattle.plan_whys.specs.declared.steps.WhyStep.{WhyStep}
use Rattle.feats_answers.specs.Gathered.{AreShown}
use Rattle.feats_answers.specs.WhyTexts.{IsFoundShown, IsSpotShown}

module _ (form : Format) (all : Bool) (w : WorkspaceText) (words : WordsText) (plan : PlanText) where
  spots_shown : (spots : List Spot) (founds : List (Option (Vec WhyStep))) (shown : List Text) → AnswersEachBy w words plan.on spots founds
      → AreShown (IsFoundShown form all w.packages words plan) (map found_text founds) shown → AreShown (IsSpotShown form all w words plan) (map spot_text spots) shown
  spots_shown spots founds shown answers are = go spots founds shown answers.holds are
    where
      go : (ss : List Spot) (fs : List (Option (Vec WhyStep))) (texts : List Text) → AllZip (λ at found. Answers w (settings_by words answers.chosen) plan.on (spot_text at) (found_text found)) ss fs
          → AreShown (IsFoundShown form all w.packages words plan) (map found_text fs) texts → AreShown (IsSpotShown form all w words plan) (map spot_text ss) texts
      go [] [] texts zip none = none
      go [] (f ∷ fs) texts zip so = absurd zip
      go (s ∷ ss) [] texts zip so = absurd zip
      go (s ∷ ss) (f ∷ fs) texts zip (here, more, is_here, are_more, is) = (
        here,
        more,
        record { found = found_text f; is_found = record { chosen = answers.chosen; are_accepted = answers.are_accepted; holds = zip.0 }; is_shown = is_here },
        go ss fs more zip.1 are_more,
        is,
      )

  pub whys_shown : (wanted : List SpotText) (spots taken : List Spot) (founds given : List (Option (Vec WhyStep))) (shown : List Text) → map spot_text spots ≡ wanted → taken ≡ spots → AnswersEachBy w words plan.on taken founds → given ≡ founds
      → AreShown (IsFoundShown form all w.packages words plan) (map found_text given) shown → AreShown (IsSpotShown form all w words plan) wanted shown
  whys_shown wanted spots taken founds given shown same are answers is shows =
      subst (λ ss. AreShown (IsSpotShown form all w words plan) ss shown) same
      (spots_shown spots founds shown (subst (λ ss. AnswersEachBy w words plan.on ss founds) are answers)
      (subst (λ fs. AreShown (IsFoundShown form all w.packages words plan) (map found_text fs) shown) is shows))
