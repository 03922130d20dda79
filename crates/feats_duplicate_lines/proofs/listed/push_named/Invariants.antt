use Rattle.std.proofs.Common.{◌≡◌, ◌++◌, flat_map, map, drop}
use Rattle.cargo_workspaces.specs.Views.{package_text}
use Rattle.feats_duplicates.specs.Views.{version_text}
use Rattle.feats_duplicate_lines.specs.Shown.{version_at}
use Rattle.feats_duplicate_lines.specs.Views.{shown_text}
use Rattle.feats_duplicate_lines.proofs.listed.push_named.Given as goal

abbrev pub invariant-loop-version : goal.invariant-loop-version
invariant-loop-version l =
    let f = version_at (map package_text l.packages) in
    map shown_text l.initial.shown.items ++ flat_map f (map version_text l.versions) ≡ map shown_text l.shown.items ++ flat_map f (map version_text (drop l.version-index l.versions))
