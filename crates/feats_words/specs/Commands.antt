-- The commands of the program and their options, as `clap` knows them.
use Rattle.std.specs.Prelude.{ℕ, List, [], ◌∷◌, ◌++◌, Some, false, true, codes}
use Rattle.clap.specs.Words.{App, Rule, Shape, Text, new_app, new_rule, with_subcommand}
use Rattle.clap.specs.Simple.{new_shape}
use Rattle.clap.specs.declared.builder.action.ArgAction.TheVariants.{Set, Append, SetTrue}

-- An option `--NAME VALUE`, which is given at most once.
abbrev pub option_rule : Text → Rule
option_rule name = record (new_rule name) { long = Some name; action = Some Set; value_names = 1 }

abbrev pub required_rule : Text → Rule
required_rule name = record (option_rule name) { required = true }

abbrev pub repeated_rule : Text → Rule
repeated_rule name = record (option_rule name) { action = Some Append }

-- One that has a letter too.
abbrev pub lettered_rule : Text → ℕ → Rule
lettered_rule name letter = record (repeated_rule name) { short = Some letter }

abbrev pub flag_rule : Text → Rule
flag_rule name = record (new_rule name) { long = Some name; action = Some SetTrue }

-- A word without an option, which is given exactly once.
abbrev pub word_rule : Text → Rule
word_rule name = record (new_rule name) { action = Some Set; value_names = 1; required = true }

-- The same, but it may be left out.
abbrev pub optional_word_rule : Text → Rule
optional_word_rule name = record (word_rule name) { required = false }

-- The option that names the document.
abbrev pub document_rule : Rule
document_rule = required_rule (codes "metadata")

-- The options that name the files of the platforms and the resolver.
abbrev pub platform_rules : List Rule
platform_rules =
    required_rule (codes "host") ∷ repeated_rule (codes "target") ∷ option_rule (codes "resolver") ∷ option_rule (codes "manifest") ∷ []

-- The options that select features.
abbrev pub feature_rules : List Rule
feature_rules = lettered_rule (codes "features") 70 ∷ flag_rule (codes "all-features") ∷ flag_rule (codes "no-default-features") ∷ []

-- The option for all targets of a kind, and that for names.
abbrev pub kind_rules : Text → Text → List Rule
kind_rules all name = flag_rule all ∷ repeated_rule name ∷ []

-- The options that choose targets.
abbrev pub target_rules : List Rule
target_rules =
    (option_rule (codes "command") ∷ flag_rule (codes "lib") ∷ []) ++ kind_rules (codes "bins") (codes "bin")
    ++ kind_rules (codes "examples") (codes "example") ++ kind_rules (codes "tests") (codes "test") ++ kind_rules (codes "benches") (codes "bench")
    ++ (flag_rule (codes "all-targets") ∷ [])

-- The options that select packages, features and targets, and the form of the answer.
abbrev pub selection_rules : List Rule
selection_rules =
    (lettered_rule (codes "package") 112 ∷ flag_rule (codes "workspace") ∷ repeated_rule (codes "exclude") ∷ []) ++ feature_rules
    ++ target_rules ++ (option_rule (codes "format") ∷ [])

-- A command about a document, with words of its own.
abbrev pub command_shape : Text → List Rule → Shape
command_shape name words = record (new_shape name) { rules = words ++ (document_rule ∷ (platform_rules ++ selection_rules)) }

-- The option that asks for the data of a page: of `diff`, and of a build that `diff` compares.
abbrev pub report_rule : Rule
report_rule = flag_rule (codes "report")

abbrev pub plan_shape : Shape
plan_shape = command_shape (codes "plan") (flag_rule (codes "summary") ∷ report_rule ∷ [])

abbrev pub why_shape : Shape
why_shape = command_shape (codes "why") (word_rule (codes "feature") ∷ flag_rule (codes "all") ∷ flag_rule (codes "routes") ∷ [])

abbrev pub why_not_shape : Shape
why_not_shape = command_shape (codes "why-not") (word_rule (codes "feature") ∷ [])

abbrev pub specs_shape : Shape
specs_shape = command_shape (codes "specs") []

abbrev pub list_shape : Shape
list_shape = command_shape (codes "list") (optional_word_rule (codes "spec") ∷ flag_rule (codes "unused") ∷ [])

abbrev pub duplicates_shape : Shape
duplicates_shape = command_shape (codes "duplicates") (flag_rule (codes "alone") ∷ flag_rule (codes "places") ∷ [])

-- An option with a letter, which is given at most once.
abbrev pub short_rule : Text → ℕ → Rule
short_rule name letter = record (option_rule name) { short = Some letter }

-- The option that says what the nodes of a tree or a graph are.
abbrev pub edges_rule : Rule
edges_rule = short_rule (codes "edges") 101

abbrev pub tree_shape : Shape
tree_shape = command_shape (codes "tree") (short_rule (codes "invert") 105 ∷ option_rule (codes "depth") ∷ edges_rule ∷ [])

abbrev pub dot_shape : Shape
dot_shape = command_shape (codes "dot") (edges_rule ∷ [])

abbrev pub report_shape : Shape
report_shape = command_shape (codes "report") []

abbrev pub check_shape : Shape
check_shape = command_shape (codes "check") (word_rule (codes "policy") ∷ flag_rule (codes "every-choice") ∷ flag_rule (codes "strict") ∷ [])

-- The command about two documents, which are words.
abbrev pub diff_shape : Shape
diff_shape = record (new_shape (codes "diff")) {
  rules = (word_rule (codes "old") ∷ word_rule (codes "new") ∷ option_rule (codes "old-manifest") ∷ report_rule ∷ []) ++ (platform_rules ++ selection_rules);
}

abbrev pub slim_shape : Shape
slim_shape = command_shape (codes "slim") (option_rule (codes "member-manifests") ∷ [])

-- The program without its commands, of which one must be given.
abbrev pub bare_app : App
bare_app = record (new_app (codes "feats")) { top = record (new_shape (codes "feats")) { subcommand_required = true } }

abbrev pub with_all : App → List Shape → App
with_all app [] = app
with_all app (shape ∷ shapes) = with_all (with_subcommand app shape) shapes

abbrev pub feats_app : App
feats_app =
    with_all bare_app
    (plan_shape ∷ why_shape ∷ why_not_shape ∷ specs_shape ∷ list_shape ∷ duplicates_shape ∷ tree_shape ∷ dot_shape ∷ report_shape ∷ check_shape ∷ diff_shape ∷ slim_shape ∷ [])
