-- What labels are made from.
use Rattle.std.specs.Prelude.{List, map}
use Rattle.cargo_workspaces.specs.Workspaces.{PackageText}
use Rattle.cargo_workspaces.specs.Views.{package_text}
use Rattle.feats_lines.specs.Lines.{name_of}
use Rattle.feats_lines.specs.Repeats.{HasRepeated}
use Rattle.feats_why.specs.declared.labels.Labels.{Labels}

abbrev pub packages_of : Labels → List PackageText
packages_of l = map package_text l.packages.now

-- The sets have the names, and the names with versions, that several packages have.
pub record AreLabels (l : Labels) : Type 0 where
  pub names : HasRepeated l.names (map (λ q. q.name) (packages_of l))
  pub versions : HasRepeated l.versions (map name_of (packages_of l))
