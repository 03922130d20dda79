-- The statuses of links over one declaration.
use Rattle.std.specs.Prelude.{◌≡◌, if◌then◌else◌}
use Rattle.guppy_packages.specs.Platform.{Status, always_status, never_status}
use Rattle.guppy_packages.specs.declared.row.DependencyKind.{DependencyKind}
use Rattle.guppy_packages.specs.declared.row.DependencyKind.TheVariants.{Normal, Build, Development}
use Rattle.feature_labels.specs.declared.link_declarations.LinkDeclarations.{LinkDeclarations}
use Rattle.feature_links.specs.declared.link.held.KindShares.{KindShares}
use Rattle.feature_links.specs.Links.{is_kind}
use Rattle.feature_links.specs.Values.{StatusFacts, statuses_of}

-- The status `s` for one kind, and never for the others.
abbrev pub kind_over : LinkDeclarations → DependencyKind → Status → StatusFacts
kind_over which only s = record {
  declarations = which;
  normal = if is_kind Normal only then s else never_status;
  build = if is_kind Build only then s else never_status;
  dev = if is_kind Development only then s else never_status;
}

-- The statuses of one declaration on all platforms, for each kind.
pub record AreShared (which : LinkDeclarations) (s : KindShares) : Type 0 where
  pub normal : statuses_of s.normal.value ≡ kind_over which Normal always_status
  pub build : statuses_of s.build.value ≡ kind_over which Build always_status
  pub dev : statuses_of s.dev.value ≡ kind_over which Development always_status
