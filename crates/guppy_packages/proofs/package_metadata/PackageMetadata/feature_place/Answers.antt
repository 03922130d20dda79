use Rattle.std.proofs.Common.{◌∙◌, sym}
use Rattle.std.specs.Str.{bytes_eq}
use Rattle.guppy_packages.specs.NamedFeature.{feature_table}
use Rattle.guppy_packages.proofs.Lists.{position-map}
use Rattle.guppy_packages.proofs.package_metadata.PackageMetadata.feature_place.Goals as goal

pub returns : goal.returns
returns c = c.place_of.ensures ∙ sym (position-map feature_table (λ f. bytes_eq c.args.name.now f.name) c.args.self.contents.now.features)
