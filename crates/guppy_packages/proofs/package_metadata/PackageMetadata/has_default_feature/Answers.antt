use Rattle.std.proofs.Common.{◌∙◌, ap, codes, is_some}
use Rattle.std.specs.Str.{bytes_eq}
use Rattle.guppy_packages.specs.Metadata.{package_table_of}
use Rattle.guppy_packages.proofs.Lists.{is_some-position}
use Rattle.guppy_packages.proofs.package_metadata.PackageMetadata.has_default_feature.Goals as goal

pub returns : goal.returns
returns c = c.is_some.ensures ∙ ap is_some c.feature_place.ensures ∙ is_some-position (λ f. bytes_eq (codes "default") f.name) (package_table_of c.args.self).features
