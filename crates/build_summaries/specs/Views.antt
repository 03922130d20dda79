-- The values that packages contain.
use Rattle.std.specs.Prelude.{List, map}
use Rattle.std.specs.Borrow.{Bor}
use Rattle.build_summaries.specs.Strings.{Text}
use Rattle.build_summaries.specs.Summaries.{PackageText, SourceText, at_path, crates_io, external, workspace}
use Rattle.build_summaries.specs.declared.packages.SummaryPackage.{SummaryPackage}
use Rattle.build_summaries.specs.declared.packages.SummarySource.{SummarySource}
use Rattle.build_summaries.specs.declared.packages.SummarySource.TheVariants as source

abbrev pub texts : List (Bor Text) → List Text
texts = map (λ t. t.now)

abbrev pub source_text : SummarySource → SourceText
source_text (source.Workspace path) = workspace path.items
source_text (source.Path path) = at_path path.items
source_text source.CratesIo = crates_io
source_text (source.External name) = external name.now

abbrev pub package_text : SummaryPackage → PackageText
package_text p = record {
  name = p.name.now;
  version = p.version.now;
  source = source_text p.source;
  status = p.status;
  features = texts p.features.items;
  optional_dependencies = texts p.optional_dependencies.items;
}
