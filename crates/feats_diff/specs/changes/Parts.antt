-- The parts of a plan that are compared.
use Rattle.std.specs.Prelude.{ℕ, List, [], unwrap_or}
use Rattle.cargo_workspaces.specs.Workspaces.{Text, PackageText}
use Rattle.feats_diff.specs.declared.changes.ranks.Rank.{Rank}

-- A package that is built: the number of its unit in the plan, the name of its place, the features with which it is built, and the
-- rank of its version.
pub record PartText : Type 0 where
  pub unit : ℕ
  pub place : Text
  pub described : PackageText
  pub features : List Text
  pub rank : Rank

-- The source; empty for a package at a path.
abbrev pub source_of : PartText → Text
source_of p = unwrap_or p.described.source []
