-- The values that Rust's types contain.
use Rattle.std.specs.Prelude.{map, option_map}
use Rattle.feats_words.specs.Requests.{KindWordsText, QuestionText, RequestText, TargetWordsText, check, dot, duplicates, list, plan, report, routes, slim, specs, summary, texts, tree, unused, why, why_not}
use Rattle.feats_words.specs.Arguments.{ArgumentsText, SourceText, version_given, manifest_at}
use Rattle.feats_words.specs.PlatformWords.{PlatformText}
use Rattle.feats_words.specs.declared.command_arguments.CommandArguments.{CommandArguments}
use Rattle.feats_words.specs.declared.command_arguments.ResolverSource.{ResolverSource}
use Rattle.feats_words.specs.declared.command_arguments.ResolverSource.TheVariants as source
use Rattle.feats_words.specs.declared.platform_words.PlatformWord.{PlatformWord}
use Rattle.feats_words.specs.declared.request.Question.{Question}
use Rattle.feats_words.specs.declared.request.Question.TheVariants as question
use Rattle.feats_words.specs.declared.request.Request.{Request}
use Rattle.feats_words.specs.declared.target_words.KindWords.{KindWords}
use Rattle.feats_words.specs.declared.target_words.TargetWords.{TargetWords}

abbrev pub platform_text : PlatformWord → PlatformText
platform_text p = record { triple = p.triple.now; path = p.path.now }

abbrev pub source_text : ResolverSource → SourceText
source_text (source.Version resolver) = version_given resolver
source_text (source.Manifest path) = manifest_at path.now

abbrev pub question_text : Question → QuestionText
question_text question.Plan = plan
question_text question.Summary = summary
question_text (question.Why feature all) = why feature.now all
question_text (question.Routes word) = routes word.now
question_text (question.WhyNot word) = why_not word.now
question_text question.Specs = specs
question_text (question.List word) = list word.now
question_text question.Unused = unused
question_text (question.Duplicates alone places) = duplicates alone places
question_text (question.Tree invert) = tree (option_map (λ t. t.now) invert)
question_text question.Dot = dot
question_text question.Report = report
question_text (question.Check policy every_choice strict) = check policy.now every_choice strict
question_text (question.Slim manifests) = slim (option_map (λ t. t.now) manifests)

abbrev pub kind_words_text : KindWords → KindWordsText
kind_words_text k = record { all = k.all; names = texts k.names.items }

abbrev pub target_words_text : TargetWords → TargetWordsText
target_words_text t = record {
  lib = t.lib;
  all_targets = t.all_targets;
  bins = kind_words_text t.bins;
  examples = kind_words_text t.examples;
  tests = kind_words_text t.tests;
  benches = kind_words_text t.benches;
}

abbrev pub arguments_text : CommandArguments → ArgumentsText
arguments_text a = record {
  question = question_text a.question;
  metadata = a.metadata.now;
  host = platform_text a.host;
  targets = map platform_text a.targets.items;
  resolver = source_text a.resolver;
  packages = texts a.packages.items;
  workspace = a.workspace;
  exclude = texts a.exclude.items;
  features = texts a.features.items;
  all_features = a.all_features;
  no_default_features = a.no_default_features;
  test = a.test;
  has_old_tests = a.has_old_tests;
  target_words = target_words_text a.target_words;
  format = a.format;
  depth = a.depth;
  edges = a.edges;
}

abbrev pub request_text : Request → RequestText
request_text r = record {
  question = question_text r.question;
  all = r.all;
  spec = option_map (λ t. t.now) r.spec;
  metadata = r.metadata.now;
  new = option_map (λ t. t.now) r.new;
  host = r.host.now;
  targets = texts r.targets.items;
  resolver = option_map (λ t. t.now) r.resolver;
  manifest = option_map (λ t. t.now) r.manifest;
  old_manifest = option_map (λ t. t.now) r.old_manifest;
  packages = texts r.packages.items;
  workspace = r.workspace;
  exclude = texts r.exclude.items;
  features = texts r.features.items;
  all_features = r.all_features;
  no_default_features = r.no_default_features;
  command = option_map (λ t. t.now) r.command;
  target_words = target_words_text r.target_words;
  format = option_map (λ t. t.now) r.format;
  depth = option_map (λ t. t.now) r.depth;
  edges = option_map (λ t. t.now) r.edges;
}
