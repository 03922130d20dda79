use Rattle.std.proofs.Common.{◌≡◌, ◌++◌, flat_map, map, drop}
use Rattle.cargo_workspaces.specs.Views.{package_text}
use Rattle.feats_duplicates.specs.Views.{versions_text}
use Rattle.feats_duplicate_lines.specs.Shown.{versions_of}
use Rattle.feats_duplicate_lines.specs.Views.{shown_text}
use Rattle.feats_duplicate_lines.proofs.listed.push_versions.Given as goal

abbrev pub invariant-loop-one : goal.invariant-loop-one
invariant-loop-one l =
    let f = versions_of (map package_text l.packages) in
    map shown_text l.initial.shown.items ++ flat_map f (map versions_text l.versions) ≡ map shown_text l.shown.items ++ flat_map f (map versions_text (drop l.one-index l.versions))
