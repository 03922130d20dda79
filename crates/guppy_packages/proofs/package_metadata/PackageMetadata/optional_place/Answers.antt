use Rattle.std.proofs.Common.{◌∙◌, sym}
use Rattle.std.specs.Str.{bytes_eq}
use Rattle.std.specs.String.{string_bytes}
use Rattle.guppy_packages.proofs.Lists.{position-map}
use Rattle.guppy_packages.proofs.package_metadata.PackageMetadata.optional_place.Goals as goal

pub returns : goal.returns
returns c = c.place_of.ensures ∙ sym (position-map string_bytes (bytes_eq c.args.name.now) c.args.self.contents.now.optional_names)
