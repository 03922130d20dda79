-- The ranks of versions.
use Rattle.std.specs.Prelude.{Result, Ok, Err, false, length, ◌==◌}
use Rattle.semver.specs.Identifiers.{parts_of}
use Rattle.semver.specs.Parse.{Parts, version_parts}
use Rattle.semver.specs.declared.Version.{Version}
use Rattle.semver.specs.declared.error.Error.{Error}
use Rattle.cargo_workspaces.specs.Workspaces.{Text}
use Rattle.feats_diff.specs.declared.changes.ranks.Rank.{Rank}

-- The three numbers of a version, and whether it has no pre-release.
abbrev pub rank_of_parts : Parts → Rank
rank_of_parts v = record { major = v.0; minor = v.1; patch = v.2; is_release = (length v.3 == 0) }

abbrev pub rank_of_version : Version → Rank
rank_of_version v = rank_of_parts (parts_of v)

-- A text that isn't a version is before all versions.
abbrev pub rank_in : Result Parts Error → Rank
rank_in (Ok v) = rank_of_parts v
rank_in (Err e) = record { major = 0; minor = 0; patch = 0; is_release = false }

abbrev pub rank_of : Text → Rank
rank_of version = rank_in (version_parts version)
