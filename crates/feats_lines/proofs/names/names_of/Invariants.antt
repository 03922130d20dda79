use Rattle.std.proofs.Common.{◌≡◌, ◌++◌, map, drop}
use Rattle.std.specs.String.{string_bytes}
use Rattle.cargo_workspaces.specs.Views.{package_text}
use Rattle.feats_lines.specs.Lines.{name_of}
use Rattle.feats_lines.proofs.names.names_of.Given as goal

abbrev pub invariant-loop-package : goal.invariant-loop-package
invariant-loop-package l =
    map name_of (map package_text l.packages) ≡ map string_bytes l.names.items ++ map name_of (map package_text (drop l.package-index l.packages))
