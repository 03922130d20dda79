-- The arguments of a command, parsed from the words of a request.
use Rattle.std.specs.Prelude.{ℕ, List, ◌∷◌, Bool, false, true, Option, None, Some, Result, Ok, Err, flat_map, codes, ok_or, if◌then◌else◌, ◌||◌}
use Rattle.std.specs.Str.{bytes_eq}
use Rattle.std.specs.Option.{option_map_or}
use Rattle.clap.specs.Words.{Text}
use Rattle.cargo_manifests.specs.declared.resolvers.resolver.Resolver.{Resolver}
use Rattle.cargo_manifests.specs.declared.resolvers.resolver.Resolver.TheVariants.{V2}
use Rattle.cargo_manifests.specs.resolvers.Resolvers.{resolver_named}
use Rattle.feats_words.specs.Depths.{depth}
use Rattle.feats_words.specs.Edges.{edges}
use Rattle.feats_words.specs.FeatureWords.{words_in}
use Rattle.feats_words.specs.PlatformWords.{PlatformText, platform_word}
use Rattle.feats_words.specs.Refusals.{Refusal, bad_platform, bad_resolver, two_resolvers, bad_format, graph_format, summary_format, routes_of_all, list_of_nothing, unused_of_one, packages_of_every_choice, exclude_alone, each, ◌>>=◌}
use Rattle.feats_words.specs.Requests.{QuestionText, RequestText, TargetWordsText, check, dot, list, report, routes, summary, unused}
use Rattle.feats_words.specs.TargetWords.{is_old, is_test}
use Rattle.feats_words.specs.declared.command_arguments.Format.{Format}
use Rattle.feats_words.specs.declared.command_arguments.Format.TheVariants.{Text as text_format, Json as json_format}
use Rattle.feats_words.specs.declared.edges.Edges.{Edges}

-- Where the version of the resolver comes from: it is given, or a root manifest chooses it.
pub data SourceText : Type 0 where
  version_given : Resolver → SourceText
  manifest_at : Text → SourceText

pub record ArgumentsText : Type 0 where
  pub question : QuestionText
  pub metadata : Text
  pub host : PlatformText
  pub targets : List PlatformText
  pub resolver : SourceText
  pub packages : List Text
  pub workspace : Bool
  pub exclude : List Text
  pub features : List Text
  pub all_features : Bool
  pub no_default_features : Bool
  -- for the build of `cargo test`; and whether that is because of `--tests` with its old meaning
  pub test : Bool
  pub has_old_tests : Bool
  pub target_words : TargetWordsText
  pub format : Format
  pub depth : Option ℕ
  pub edges : Edges

abbrev pub platform : Text → Result PlatformText Refusal
platform word = ok_or (platform_word word) (bad_platform word)

abbrev pub platforms : List Text → Result (List PlatformText) Refusal
platforms = each platform

abbrev pub version_named : Text → Option Resolver → Result SourceText Refusal
version_named word None = Err (bad_resolver word)
version_named word (Some resolver) = Ok (version_given resolver)

abbrev pub version : Text → Result SourceText Refusal
version word = version_named word (resolver_named word)

-- The source of the resolver's version: 2, if neither a version nor a manifest is given.
abbrev pub resolver_source : Option Text → Option Text → Result SourceText Refusal
resolver_source (Some word) (Some path) = Err two_resolvers
resolver_source (Some word) None = version word
resolver_source None (Some path) = Ok (manifest_at path)
resolver_source None None = Ok (version_given V2)

abbrev pub format_named : Text → Result Format Refusal
format_named word =
    if bytes_eq word (codes "text") then Ok text_format
    else (if bytes_eq word (codes "json") then Ok json_format else Err (bad_format word))

abbrev pub format : Option Text → Result Format Refusal
format word = option_map_or format_named word (Ok text_format)

-- The data of a page is JSON, whichever format is named.
abbrev pub report_format : Option Text → Result Format Refusal
report_format word = format word >>= λ named. Ok json_format

-- The format of an answer to a question. `dot` and `plan --summary` take none.
abbrev pub format_for : QuestionText → Option Text → Result Format Refusal
format_for dot (Some word) = Err graph_format
format_for summary (Some word) = Err summary_format
format_for report word = report_format word
format_for _ word = format word

-- Routes aren't every direct reason of each step, so `--routes` excludes `--all`.
abbrev pub not_both : QuestionText → Bool → Result (Unit {0}) Refusal
not_both (routes word) true = Err routes_of_all
not_both _ all = Ok tt

-- `list` is about one package, or with `--unused` about the members.
abbrev pub of_one : QuestionText → Option Text → Result (Unit {0}) Refusal
of_one (list word) None = Err list_of_nothing
of_one unused (Some word) = Err unused_of_one
of_one _ spec = Ok tt

-- A question about every choice is about all members, so no package is selected, and none excluded.
abbrev pub all_members : QuestionText → List Text → Result (Unit {0}) Refusal
all_members (check file true strict) (word ∷ words) = Err packages_of_every_choice
all_members _ words = Ok tt

-- `--exclude` needs `--workspace`.
abbrev pub of_all_members : Bool → List Text → Result (Unit {0}) Refusal
of_all_members false (word ∷ words) = Err exclude_alone
of_all_members _ words = Ok tt

abbrev pub arguments : RequestText → Result ArgumentsText Refusal
arguments r =
    platform r.host >>= λ host.
    platforms r.targets >>= λ targets.
    resolver_source r.resolver r.manifest >>= λ resolver.
    format_for r.question r.format >>= λ form.
    depth r.depth >>= λ limit.
    edges r.edges >>= λ nodes.
    not_both r.question r.all >>= λ one.
    of_one r.question r.spec >>= λ named.
    all_members r.question r.packages >>= λ none.
    all_members r.question r.exclude >>= λ kept.
    of_all_members r.workspace r.exclude >>= λ all.
    is_test r.command >>= λ test.
    Ok (record {
      question = r.question;
      metadata = r.metadata;
      host = host;
      targets = targets;
      resolver = resolver;
      packages = r.packages;
      workspace = r.workspace;
      exclude = r.exclude;
      features = flat_map words_in r.features;
      all_features = r.all_features;
      no_default_features = r.no_default_features;
      test = test || is_old r.command r.target_words;
      has_old_tests = is_old r.command r.target_words;
      target_words = r.target_words;
      format = form;
      depth = limit;
      edges = nodes;
    })
