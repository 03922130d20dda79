-- Where the rules of a policy are judged.
use Rattle.std.specs.Prelude.{◌≡◌, ℕ, List, Bool, Option, Some, None, ⊤}
use Rattle.cargo_plans.specs.Plans.{IsPlanOf, WordsText}
use Rattle.cargo_workspaces.specs.Workspaces.{Text, WorkspaceText}
use Rattle.cargo_plans.specs.plan_steps.Plans.{PlanText}
use Rattle.plan_names.specs.wider.widenings.Widenings.{widened}
use Rattle.plan_names.specs.declared.wider.widenings.widening.Widening.TheVariants as widening
use Rattle.feats_policies.specs.Rules.{KindText, RuleText, deny, deny_duplicates, require}
use Rattle.feats_policies.specs.checks.Builds.{BuildText}
use Rattle.feats_policies.specs.declared.checks.judged.Judged.{Judged}
use Rattle.feats_policies.specs.declared.checks.judged.Judged.TheVariants.{ForEveryChoice, WithAll}
use Rattle.feats_check.specs.checking.Questions.{QuestionText}

-- A build of a workspace, and the words of its plan.
pub record SceneText : Type 0 where
  pub workspace : WorkspaceText
  pub words : WordsText
  pub build : BuildText

abbrev pub IsScene : SceneText → Type 0
IsScene s = IsPlanOf s.workspace s.words s.build.plan

-- The builds in which a deny is judged for every choice: one for a platform with all members, features and tests, and one for all platforms by
-- the widest words.
pub record WideText : Type 0 where
  pub all : SceneText
  pub widest : SceneText

-- The build itself, and the others for every choice.
pub record ScenesText : Type 0 where
  pub here : SceneText
  pub wide : Option WideText

-- A rule, and where it is judged.
pub record JudgedText : Type 0 where
  pub scene : SceneText
  pub rule : RuleText

abbrev pub judged_in : SceneText → RuleText → JudgedText
judged_in s r = record { scene = s; rule = r }

-- How a rule is judged for every choice: a deny in the plan of the widest words, or with all members, features and tests if it is for a
-- platform; and another rule in the build.
abbrev pub judged_by_kind : SceneText → WideText → RuleText → KindText → JudgedText
judged_by_kind here wide r (deny word None) = judged_in wide.widest r
judged_by_kind here wide r (deny word (Some triple)) = judged_in wide.all r
judged_by_kind here wide r (require word) = judged_in here r
judged_by_kind here wide r (deny_duplicates word) = judged_in here r

abbrev pub judged_widely : SceneText → WideText → RuleText → JudgedText
judged_widely here wide r = judged_by_kind here wide r r.kind

abbrev pub judged_by : SceneText → Option WideText → RuleText → JudgedText
judged_by here None r = judged_in here r
judged_by here (Some wide) r = judged_widely here wide r

-- How a rule is judged.
abbrev pub judged : ScenesText → RuleText → JudgedText
judged s r = judged_by s.here s.wide r

-- The build by a plan of the words. The words of rules are looked up in the packages `selected` first.
abbrev pub scene_of : WorkspaceText → List ℕ → QuestionText → WordsText → PlanText → Judged → SceneText
scene_of w selected asked words plan judged = record {
  workspace = w;
  words = words;
  build = record {
    packages = w.packages;
    selected = selected;
    plan = plan;
    split = words.selection.split;
    host = asked.host;
    targets = asked.targets;
    judged = judged;
  };
}

-- The words with all members, all their features, and tests. The platforms stay.
abbrev pub all_words : (Text → Bool) → WordsText → WordsText
all_words every words = widened every widening.Tests (widened every widening.AllMembers (widened every widening.AllFeatures words))

-- The widest words: the widenings together. `every` is which platform specs hold on every platform.
abbrev pub widest_words : (Text → Bool) → WordsText → WordsText
widest_words every words = widened every widening.Together words

-- The scene of a plan of these words. The words of rules mean there what they mean in the build.
pub record IsSceneBy (here : SceneText) (asked : QuestionText) (words : WordsText) (judged : Judged) (s : SceneText) : Type 0 where
  pub plan : PlanText
  pub is_plan : IsPlanOf here.workspace words plan
  pub is_scene : s ≡ scene_of here.workspace here.build.selected asked words plan judged

-- For every choice: the scenes of plans of these words.
abbrev pub AreWideScenes : SceneText → QuestionText → Option (Text → Bool) → Option WideText → Type 0
AreWideScenes here asked None None = ⊤
AreWideScenes here asked None (Some s) = ⊥
AreWideScenes here asked (Some every) None = ⊥
AreWideScenes here asked (Some every) (Some s) =
    IsSceneBy here asked (all_words every here.words) WithAll s.all × IsSceneBy here asked (widest_words every here.words) ForEveryChoice s.widest
