use Rattle.std.proofs.Common.{◌∙◌, ap, sym}
use Rattle.std.specs.List.{list_all}
use Rattle.guppy_packages.specs.Stored.{declared}
use Rattle.guppy_packages.specs.Tables.{is_development}
use Rattle.guppy_packages.proofs.Lists.{list_all-map}
use Rattle.guppy_packages.proofs.package_link.PackageLink.dev_only.Goals as goal

pub returns : goal.returns
returns c = c.are_for_development.ensures ∙ sym (list_all-map declared (λ d. is_development d.kind) c.declarations.result.now) ∙ ap (list_all (λ d. is_development d.kind)) c.declarations.ensures
