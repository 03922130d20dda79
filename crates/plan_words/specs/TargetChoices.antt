-- The targets of packages that the words of a command line choose.
use Rattle.std.specs.Prelude.{List, [], ◌∷◌, Bool, true, false, not, ◌&&◌, ◌||◌, codes, if◌then◌else◌}
use Rattle.std.specs.List.{list_any}
use Rattle.cargo_workspaces.specs.Workspaces.{Text, TargetText, has_kind, is_library}
use Rattle.cargo_workspaces.specs.Views.{texts}
use Rattle.plan_words.specs.Patterns.{fits}
use Rattle.plan_words.specs.declared.target_choice.KindWords.{KindWords}
use Rattle.plan_words.specs.declared.target_choice.TargetChoice.{TargetChoice}

-- The words for targets of one kind: the word for all of them, as `--bins`, and those for names, as `--bin NAME`.
pub record KindText : Type 0 where
  pub all : Bool
  pub names : List Text

-- What a command line says about targets: whether the build is that of `cargo test`, and else it is that of `cargo build`; whether libraries
-- are chosen, and whether there must be one; and the words of each other kind.
pub record TargetChoiceText : Type 0 where
  pub test : Bool
  pub lib : Bool
  pub needs_lib : Bool
  pub bins : KindText
  pub examples : KindText
  pub tests : KindText
  pub benches : KindText

abbrev pub kind_text : KindWords → KindText
kind_text k = record { all = k.all; names = texts k.names.now }

abbrev pub target_choice_text : TargetChoice → TargetChoiceText
target_choice_text c = record { test = c.test; lib = c.lib; needs_lib = c.needs_lib; bins = kind_text c.bins; examples = kind_text c.examples; tests = kind_text c.tests; benches = kind_text c.benches }

-- The same words for targets, for the build of `cargo test`.
abbrev pub with_tests : TargetChoiceText → TargetChoiceText
with_tests c = record { test = true; lib = c.lib; needs_lib = c.needs_lib; bins = c.bins; examples = c.examples; tests = c.tests; benches = c.benches }

abbrev pub no_words : KindText
no_words = record { all = false; names = [] }

-- No words for targets: the build of `cargo test`, or of `cargo build`.
abbrev pub of_command : Bool → TargetChoiceText
of_command test = record { test = test; lib = false; needs_lib = false; bins = no_words; examples = no_words; tests = no_words; benches = no_words }

abbrev pub are_some : List Text → Bool
are_some [] = false
are_some (word ∷ words) = true

-- Whether there are words for targets of a kind.
abbrev pub is_given : KindText → Bool
is_given k = k.all || are_some k.names

-- Whether dependencies for development count: in tests, and if there are words for examples, tests or benchmarks.
abbrev pub needs_development : TargetChoiceText → Bool
needs_development c = c.test || is_given c.examples || is_given c.tests || is_given c.benches

-- Whether there are words for targets.
abbrev pub is_restricted : TargetChoiceText → Bool
is_restricted c = c.lib || is_given c.bins || is_given c.examples || is_given c.tests || is_given c.benches

-- Whether a target of the kind has a name that the word fits.
abbrev pub is_called : Text → TargetText → Text → Bool
is_called kind t word = has_kind kind t && fits word t.name

-- Whether a word for a name chooses the target. The word for all targets of the kind makes the others meaningless.
abbrev pub is_named : KindText → Text → TargetText → Bool
is_named k kind t = not k.all && list_any (is_called kind t) k.names

-- Whether words of a kind choose the target: `every` is whether the word for all targets does.
abbrev pub is_of : KindText → Bool → Text → TargetText → Bool
is_of k every kind t = (k.all && every) || is_named k kind t

-- A document doesn't say which targets have benchmarks. These do, unless a manifest says otherwise.
abbrev pub has_benchmarks : TargetText → Bool
has_benchmarks t = is_library t || has_kind (codes "bin") t || has_kind (codes "bench") t

-- Whether the target is chosen as an example, a test or a benchmark: `--tests` chooses all targets that have tests.
abbrev pub is_for_development : TargetChoiceText → TargetText → Bool
is_for_development c t =
    is_of c.examples (has_kind (codes "example") t) (codes "example") t
    || is_of c.tests t.test (codes "test") t
    || is_of c.benches (has_benchmarks t) (codes "bench") t

-- Whether words for targets choose the target.
abbrev pub is_worded : TargetChoiceText → TargetText → Bool
is_worded c t = (c.lib && is_library t) || is_of c.bins (has_kind (codes "bin") t) (codes "bin") t || is_for_development c t

-- Without words for targets: for `cargo test` what has tests, and examples; for `cargo build` libraries and programs.
abbrev pub is_default : Bool → TargetText → Bool
is_default test t = if test then t.test || t.doctest || has_kind (codes "example") t else is_library t || has_kind (codes "bin") t

-- Whether the target is chosen. Build scripts never are.
abbrev pub is_chosen : TargetChoiceText → TargetText → Bool
is_chosen c t = not (has_kind (codes "custom-build") t) && (if is_restricted c then is_worded c t else is_default c.test t)

-- Whether the target, if it is chosen, is built with the dependencies for development.
abbrev pub is_with_development : TargetChoiceText → TargetText → Bool
is_with_development c t = c.test || is_for_development c t

-- Whether a word for a name chooses the target.
abbrev pub is_by_name : TargetChoiceText → TargetText → Bool
is_by_name c t =
    is_named c.bins (codes "bin") t || is_named c.examples (codes "example") t || is_named c.tests (codes "test") t || is_named c.benches (codes "bench") t
