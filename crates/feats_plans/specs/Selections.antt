-- What arguments ask of a plan.
use Rattle.std.specs.Prelude.{List, [], ◌∷◌, Bool, not, ◌&&◌, ◌||◌, if◌then◌else◌}
use Rattle.cargo_workspaces.specs.Workspaces.{Text}
use Rattle.plan_words.specs.Selections.{ChoiceText, SelectionText, all_but, all_members, default_members, named}
use Rattle.cargo_manifests.specs.declared.resolvers.resolver.Resolver.{Resolver}
use Rattle.cargo_manifests.specs.resolvers.Resolvers.{is_split}
use Rattle.feats_words.specs.Arguments.{ArgumentsText}
use Rattle.feats_words.specs.Requests.{KindWordsText}
use Rattle.plan_words.specs.TargetChoices.{KindText, TargetChoiceText}
use Rattle.cargo_plans.specs.Plans.{WordsText}

abbrev pub named_or_default : List Text → ChoiceText
named_or_default [] = default_members
named_or_default (word ∷ words) = named (word ∷ words)

abbrev pub all_or_but : List Text → ChoiceText
all_or_but [] = all_members
all_or_but (word ∷ words) = all_but (word ∷ words)

-- `--workspace` selects all members but those that `--exclude` leaves out, and else words of `-p` select packages.
abbrev pub choice : ArgumentsText → ChoiceText
choice a = if a.workspace then all_or_but a.exclude else named_or_default a.packages

abbrev pub selection : ArgumentsText → Resolver → SelectionText
selection a version = record {
  packages = choice a;
  features = a.features;
  all_features = a.all_features;
  no_default_features = a.no_default_features;
  split = is_split version;
}

-- The words of a kind of targets, where `all` is whether all targets are chosen.
abbrev pub kind_words : Bool → KindWordsText → KindText
kind_words all k = record { all = all || k.all; names = k.names }

-- The words for tests. The word for all of them is left out, if it has its old meaning.
abbrev pub test_words : ArgumentsText → KindText
test_words a = record { all = a.target_words.all_targets || (a.target_words.tests.all && not a.has_old_tests); names = a.target_words.tests.names }

-- The targets that are chosen. With `--all-targets` no library must be there, and words for names have no effect.
abbrev pub target_choice : ArgumentsText → TargetChoiceText
target_choice a = record {
  test = a.test;
  lib = a.target_words.all_targets || a.target_words.lib;
  needs_lib = a.target_words.lib && not a.target_words.all_targets;
  bins = kind_words a.target_words.all_targets a.target_words.bins;
  examples = kind_words a.target_words.all_targets a.target_words.examples;
  tests = test_words a;
  benches = kind_words a.target_words.all_targets a.target_words.benches;
}

-- `host` and `targets` say which platform specs hold.
abbrev pub words_of : ArgumentsText → Resolver → (Text → Bool) → List (Text → Bool) → WordsText
words_of a version host targets = record { selection = selection a version; choice = target_choice a; host = host; targets = targets }
