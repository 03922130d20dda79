-- The widened selections of a command line.
use Rattle.std.specs.Prelude.{List, [], ◌∷◌, ◌||◌, Bool, true, false, not}
use Rattle.cargo_workspaces.specs.Workspaces.{Text}
use Rattle.plan_words.specs.TargetChoices.{with_tests as tested}
use Rattle.plan_words.specs.Selections.{ChoiceText, SelectionText, all_but, all_members, default_members, named}
use Rattle.cargo_plans.specs.Plans.{WordsText}
use Rattle.plan_names.specs.declared.wider.widenings.widening.Widening.{Widening}
use Rattle.plan_names.specs.declared.wider.widenings.widening.Widening.TheVariants as widening

-- The widenings, in the order of an answer.
abbrev pub widenings : List Widening
widenings = widening.AllFeatures ∷ widening.AllMembers ∷ widening.Tests ∷ widening.EveryPlatform ∷ widening.Together ∷ []

-- With all features of the selected members.
abbrev pub with_all_features : SelectionText → SelectionText
with_all_features s = record { packages = s.packages; features = s.features; all_features = true; no_default_features = false; split = s.split }

-- With all members of the workspace.
abbrev pub with_all_members : SelectionText → SelectionText
with_all_members s = record { packages = all_members; features = s.features; all_features = s.all_features; no_default_features = s.no_default_features; split = s.split }

abbrev pub select : SelectionText → WordsText → WordsText
select s words = record { selection = s; choice = words.choice; host = words.host; targets = words.targets }

abbrev pub with_tests : WordsText → WordsText
with_tests words = record { selection = words.selection; choice = tested words.choice; host = words.host; targets = words.targets }

-- With this platform as the host and as the only target.
abbrev pub on_platform : (Text → Bool) → WordsText → WordsText
on_platform every words = record { selection = words.selection; choice = words.choice; host = every; targets = every ∷ [] }

-- The widened words. `every` is which platform specs hold on every platform that the workspace names.
abbrev pub widened : (Text → Bool) → Widening → WordsText → WordsText
widened every widening.AllFeatures words = select (with_all_features words.selection) words
widened every widening.AllMembers words = select (with_all_members words.selection) words
widened every widening.Tests words = with_tests words
widened every widening.EveryPlatform words = on_platform every words
widened every widening.Together words = on_platform every (with_tests (select (with_all_members (with_all_features words.selection)) words))

-- Whether it is the choice of all members.
abbrev pub is_all : ChoiceText → Bool
is_all default_members = false
is_all all_members = true
is_all (named words) = false
is_all (all_but words) = false

-- Whether a widening adds to the words. The platform is always an addition.
abbrev pub adds : Widening → WordsText → Bool
adds widening.AllFeatures words = not words.selection.all_features || words.selection.no_default_features
adds widening.AllMembers words = not (is_all words.selection.packages)
adds widening.Tests words = not words.choice.test
adds widening.EveryPlatform words = true
adds widening.Together words = true
