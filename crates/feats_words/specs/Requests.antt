-- What a command line asks for.
use Rattle.std.specs.Prelude.{List, [], Bool, false, Option, None, Some, map, unwrap_or, option_map, option_and_then, codes, if◌then◌else◌}
use Rattle.std.specs.Borrow.{Bor}
use Rattle.std.specs.Str.{bytes_eq}
use Rattle.std.specs.Option.{option_map_or}
use Rattle.clap.specs.Words.{Row, Text, all_of, first_of, subcommand_of}
use Rattle.feats_words.specs.Commands.{feats_app}

abbrev pub texts : List (Bor Text) → List Text
texts = map (λ t. t.now)

-- The question that a command asks about a build. `why` also says whether every direct reason is wanted, `duplicates` whether the selected
-- members are planned alone too and whether packages with the same features in several places are shown, and `check`, whose word is the policy's file, whether it asks about every choice and whether each word of a
-- rule must name something. `slim` may name the file of the manifests. `unused` asks which features of members no other package turns on, `report` for the data of a page, `summary` for the summary of a
-- plan, and `routes` for the shortest routes to a package.
pub data QuestionText : Type 0 where
  plan : QuestionText
  summary : QuestionText
  why : Text → Bool → QuestionText
  routes : Text → QuestionText
  why_not : Text → QuestionText
  specs : QuestionText
  list : Text → QuestionText
  unused : QuestionText
  duplicates : Bool → Bool → QuestionText
  tree : Option Text → QuestionText
  dot : QuestionText
  report : QuestionText
  check : Text → Bool → Bool → QuestionText
  slim : Option Text → QuestionText

-- The words for targets of one kind: whether the word for all of them is given, as `--bins`, and those for names, as `--bin NAME`.
pub record KindWordsText : Type 0 where
  pub all : Bool
  pub names : List Text

-- The words that choose targets.
pub record TargetWordsText : Type 0 where
  pub lib : Bool
  pub all_targets : Bool
  pub bins : KindWordsText
  pub examples : KindWordsText
  pub tests : KindWordsText
  pub benches : KindWordsText

-- What a command line asks for.
pub record RequestText : Type 0 where
  pub question : QuestionText
  -- whether `--all` is given
  pub all : Bool
  -- the package of `list`
  pub spec : Option Text
  pub metadata : Text
  pub new : Option Text
  pub host : Text
  pub targets : List Text
  pub resolver : Option Text
  pub manifest : Option Text
  pub old_manifest : Option Text
  pub packages : List Text
  pub workspace : Bool
  pub exclude : List Text
  pub features : List Text
  pub all_features : Bool
  pub no_default_features : Bool
  pub command : Option Text
  pub target_words : TargetWordsText
  pub format : Option Text
  pub depth : Option Text
  pub edges : Option Text

-- The value of an option; of an option or a word that is required; the values of an option that may be given several times.
abbrev pub value : Text → List Row → Option Text
value name rows = first_of name rows

abbrev pub required_value : Text → List Row → Text
required_value name rows = unwrap_or (first_of name rows) []

abbrev pub values : Text → List Row → List Text
values name rows = unwrap_or (all_of name rows) []

-- The document: the value of --metadata, or the first word of `diff`.
abbrev pub document : List Row → Text
document rows = unwrap_or (value (codes "metadata") rows) (required_value (codes "old") rows)

-- Whether an option without a value is given.
abbrev pub is_given : Text → List Row → Bool
is_given name rows = option_map_or (λ value. bytes_eq value (codes "true")) (first_of name rows) false

abbrev pub kind_words : Text → Text → List Row → KindWordsText
kind_words all name rows = record { all = is_given all rows; names = values name rows }

abbrev pub target_words : List Row → TargetWordsText
target_words rows = record {
  lib = is_given (codes "lib") rows;
  all_targets = is_given (codes "all-targets") rows;
  bins = kind_words (codes "bins") (codes "bin") rows;
  examples = kind_words (codes "examples") (codes "example") rows;
  tests = kind_words (codes "tests") (codes "test") rows;
  benches = kind_words (codes "benches") (codes "bench") rows;
}

-- The question about what is built. With `--report` it is about the data of the page.
abbrev pub built : List Row → QuestionText
built rows = if is_given (codes "report") rows then report else plan

-- The question of `plan`. With `--summary` it is about the summary.
abbrev pub planned : List Row → QuestionText
planned rows = if is_given (codes "summary") rows then summary else built rows

-- The question of `why`. With `--routes` it is about the shortest routes.
abbrev pub explained : List Row → QuestionText
explained rows =
    if is_given (codes "routes") rows then routes (required_value (codes "feature") rows)
    else why (required_value (codes "feature") rows) (is_given (codes "all") rows)

-- The question about the features of a package. With `--unused` it is about the features that nothing uses.
abbrev pub listed : List Row → QuestionText
listed rows = if is_given (codes "unused") rows then unused else list (required_value (codes "spec") rows)

-- The question of the command with a name, by the rows of its words. `diff` compares what is built.
abbrev pub question_of : Text → List Row → Option QuestionText
question_of name rows =
    if bytes_eq name (codes "plan") then Some (planned rows)
    else (if bytes_eq name (codes "why") then Some (explained rows)
    else (if bytes_eq name (codes "why-not") then Some (why_not (required_value (codes "feature") rows))
    else (if bytes_eq name (codes "specs") then Some specs
    else (if bytes_eq name (codes "list") then Some (listed rows)
    else (if bytes_eq name (codes "duplicates") then Some (duplicates (is_given (codes "alone") rows) (is_given (codes "places") rows))
    else (if bytes_eq name (codes "tree") then Some (tree (value (codes "invert") rows))
    else (if bytes_eq name (codes "dot") then Some dot
    else (if bytes_eq name (codes "report") then Some report
    else (if bytes_eq name (codes "check") then Some (check (required_value (codes "policy") rows) (is_given (codes "every-choice") rows) (is_given (codes "strict") rows))
    else (if bytes_eq name (codes "diff") then Some (built rows)
    else (if bytes_eq name (codes "slim") then Some (slim (value (codes "member-manifests") rows))
    else None)))))))))))

abbrev pub asked : QuestionText → List Row → RequestText
asked question rows = record {
  question = question;
  all = is_given (codes "all") rows;
  spec = value (codes "spec") rows;
  metadata = document rows;
  new = value (codes "new") rows;
  host = required_value (codes "host") rows;
  targets = values (codes "target") rows;
  resolver = value (codes "resolver") rows;
  manifest = value (codes "manifest") rows;
  old_manifest = value (codes "old-manifest") rows;
  packages = values (codes "package") rows;
  workspace = is_given (codes "workspace") rows;
  exclude = values (codes "exclude") rows;
  features = values (codes "features") rows;
  all_features = is_given (codes "all-features") rows;
  no_default_features = is_given (codes "no-default-features") rows;
  command = value (codes "command") rows;
  target_words = target_words rows;
  format = value (codes "format") rows;
  depth = value (codes "depth") rows;
  edges = value (codes "edges") rows;
}

-- The same request about one document, with its root manifest.
abbrev pub document_request : RequestText → Text → Option Text → RequestText
document_request r path manifest = record r { metadata = path; new = None; manifest = manifest; old_manifest = None }

-- What the command of a name is asked for by its words and options.
abbrev pub request_of : Text × List Row → Option RequestText
request_of command = option_map (λ question. asked question command.1) (question_of command.0 command.1)

-- What a command line asks for; the first word is the program's name.
abbrev pub request_in : List Text → Option RequestText
request_in words = option_and_then request_of (subcommand_of feats_app words)
