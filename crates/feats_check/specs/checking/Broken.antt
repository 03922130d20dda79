-- The broken rules of a policy, and their text.
use Rattle.std.specs.Prelude.{◌≡◌, List, [], ◌∷◌, ◌++◌, Bool, true, false, map, flat_map, Some, Option, slice_get}
use Rattle.std.specs.List.{AllZip}
use Rattle.cargo_workspaces.specs.Workspaces.{Text}
use Rattle.plan_whys.specs.Steps.{SpotText, WhyText}
use Rattle.plan_whys.specs.Whys.{AnswersBy}
use Rattle.feats_policies.specs.Rules.{RuleText}
use Rattle.feats_policies.specs.checks.Builds.{BuildText}
use Rattle.feats_policies.specs.checks.Checks.{RefusalText, VerdictText, refusal_of, verdict_on}
use Rattle.feats_check.specs.texts.Messages.{IsCheckMessage}
use Rattle.feats_check.specs.checking.Questions.{PrintedText, QuestionText}
use Rattle.feats_check.specs.checking.Scenes.{JudgedText, SceneText, ScenesText, judged}
use Rattle.feats_check.specs.checking.Whys.{rule_text}

-- A broken rule with the spots that break it, and where it was judged.
pub record BrokenText : Type 0 where
  pub scene : SceneText
  pub verdict : VerdictText

-- A rule that can't be checked, and the build.
pub record UncheckedText : Type 0 where
  pub build : BuildText
  pub refusal : RefusalText

abbrev pub broken_in : SceneText → VerdictText → BrokenText
broken_in s v = record { scene = s; verdict = v }

abbrev pub unchecked_in : BuildText → RefusalText → UncheckedText
unchecked_in b e = record { build = b; refusal = e }

-- The rule, if it is broken where it is judged; and the reason why it can't be checked there, if it can't be.
abbrev pub broken_by : JudgedText → List BrokenText
broken_by j = map (broken_in j.scene) (verdict_on j.scene.build j.rule)

abbrev pub unchecked_by : JudgedText → List UncheckedText
unchecked_by j = map (unchecked_in j.scene.build) (refusal_of j.scene.build j.rule)

-- The broken rules, and those that can't be checked, in the order of the policy.
abbrev pub broken_rules : ScenesText → List RuleText → List BrokenText
broken_rules s rules = flat_map (λ r. broken_by (judged s r)) rules

abbrev pub unchecked_rules : ScenesText → List RuleText → List UncheckedText
unchecked_rules s rules = flat_map (λ r. unchecked_by (judged s r)) rules

abbrev pub are_any : {X : Type 0} → List X → Bool
are_any [] = false
are_any (x ∷ xs) = true

-- Why each spot is on, in the plan of the scene.
abbrev pub AreFound : SceneText → List SpotText → List (Option (List WhyText)) → Type 0
AreFound s spots founds = AllZip (AnswersBy s.workspace s.words s.build.plan.on) spots founds

-- The text of a broken rule: with it are explanations of all spots that break it.
pub record IsBrokenText (asked : QuestionText) (b : BrokenText) (text : Text) : Type 0 where
  pub founds : List (Option (List WhyText))
  pub are_found : AreFound b.scene b.verdict.spots founds
  pub is_text : text ≡ rule_text asked b.scene.build.judged b.scene.workspace.packages b.scene.words b.verdict.rule founds

-- The texts of broken rules, one after the other.
abbrev pub ArePrinted : QuestionText → List BrokenText → Text → Type 0
ArePrinted asked [] text = text ≡ []
ArePrinted asked (b ∷ bs) text = (here : Text) × (more : Text) × IsBrokenText asked b here × ArePrinted asked bs more × (text ≡ here ++ more)

-- What is printed of one rule: the rule, if it is broken.
pub record IsRuleText (asked : QuestionText) (j : JudgedText) (printed : PrintedText) : Type 0 where
  pub can_be_checked : unchecked_by j ≡ []
  pub are_printed : ArePrinted asked (broken_by j) printed.text
  pub is_broken : printed.is_broken ≡ are_any (broken_by j)

-- WHAT IS PRINTED of a policy: exactly the broken rules, in its order. Each rule can be checked.
pub record IsPolicyText (asked : QuestionText) (s : ScenesText) (printed : PrintedText) : Type 0 where
  pub can_be_checked : unchecked_rules s asked.rules ≡ []
  pub are_printed : ArePrinted asked (broken_rules s asked.rules) printed.text
  pub is_broken : printed.is_broken ≡ are_any (broken_rules s asked.rules)

-- The message about the first of the rules that can't be checked.
pub record IsFirstMessage (asked : QuestionText) (unchecked : List UncheckedText) (message : Text) : Type 0 where
  pub first : UncheckedText
  pub is_first : slice_get unchecked 0 ≡ Some first
  pub is_message : IsCheckMessage first.build asked.file first.refusal message

abbrev pub IsRuleRefusal : QuestionText → JudgedText → Text → Type 0
IsRuleRefusal asked j message = IsFirstMessage asked (unchecked_by j) message

-- THE MESSAGE why a policy can't be checked.
abbrev pub IsRulesRefusal : QuestionText → ScenesText → Text → Type 0
IsRulesRefusal asked s message = IsFirstMessage asked (unchecked_rules s asked.rules) message
