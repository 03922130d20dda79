-- What was found of spots, with texts in place of references.
use Rattle.std.proofs.Common.{◌≡◌, sym, subst, List, [], ◌∷◌, map, Option}
use Rattle.std.specs.Global.{Vec}
use Rattle.std.specs.List.{AllZip}
use Rattle.cargo_plans.specs.Plans.{settings_by}
use Rattle.plan_whys.specs.StepViews.{found_text, spot_text}
use Rattle.plan_whys.specs.Whys.{Answers, AnswersEachBy}
use Rattle.plan_whys.specs.declared.steps.Spot.{Spot}
use Rattle.plan_whys.specs.declared.steps.WhyStep.{WhyStep}
use Rattle.feats_check.specs.checking.Broken.{AreFound}
use Rattle.feats_check.specs.checking.Scenes.{SceneText}

by_each : (s : SceneText) (spots : List Spot) (founds : List (Option (Vec WhyStep))) → AnswersEachBy s.workspace s.words s.build.plan.on spots founds → AreFound s (map spot_text spots) (map found_text founds)
by_each s spots founds answers = go spots founds answers.holds
  where
    go : (ss : List Spot) (fs : List (Option (Vec WhyStep))) → AllZip (λ at found. Answers s.workspace (settings_by s.words answers.chosen) s.build.plan.on (spot_text at) (found_text found)) ss fs
        → AreFound s (map spot_text ss) (map found_text fs)
    go [] [] zip = tt
    go [] (f ∷ fs) zip = absurd zip
    go (at ∷ ss) [] zip = absurd zip
    go (at ∷ ss) (f ∷ fs) zip = (record { chosen = answers.chosen; are_accepted = answers.are_accepted; holds = zip.0 }, go ss fs zip.1)

-- the same of lists that are lent
pub are_found : (s : SceneText) (spots taken : List Spot) (founds given : List (Option (Vec WhyStep))) → taken ≡ spots → given ≡ founds → AnswersEachBy s.workspace s.words s.build.plan.on taken founds
    → AreFound s (map spot_text spots) (map found_text given)
are_found s spots taken founds given is same answers =
    subst (λ fs. AreFound s (map spot_text spots) (map found_text fs)) (sym same) (by_each s spots founds (subst (λ ss. AnswersEachBy s.workspace s.words s.build.plan.on ss founds) is answers))
