-- What an answer is about: labels of packages.
use Rattle.std.specs.Prelude.{ℕ, List, false}
use Rattle.cargo_workspaces.specs.Workspaces.{Text, PackageText}
use Rattle.feature_labels.specs.Names.{LabelName}
use Rattle.plan_rows.specs.declared.side.Side.{Side}
use Rattle.plan_rows.specs.declared.side.Side.TheVariants.{Target}
use Rattle.plan_whys.specs.Steps.{SpotText}
use Rattle.feats_why.specs.Labels.{spot_label}

-- A label of the package with this number.
pub record PartText : Type 0 where
  pub number : ℕ
  pub label : LabelName

-- The part on a side.
abbrev pub spot_on : Side → PartText → SpotText
spot_on side part = record { side = side; number = part.number; label = part.label }

-- How a part is called.
abbrev pub title_of : List PackageText → PartText → Text
title_of packages part = spot_label packages false (spot_on Target part)
