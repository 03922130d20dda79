-- The lines about what is on, and isn't built.
use Rattle.std.specs.Prelude.{ℕ, List, [], ◌++◌, Bool, Option, Some, None, codes, flat_map}
use Rattle.feature_labels.specs.Names.{base}
use Rattle.cargo_workspaces.specs.Workspaces.{Text, PackageText}
use Rattle.plan_rows.specs.declared.side.Side.{Side}
use Rattle.plan_rows.specs.declared.side.Side.TheVariants.{Target}
use Rattle.plan_whys.specs.Steps.{SpotText}
use Rattle.plan_whys.specs.StepViews.{spot_text}
use Rattle.feats_why.specs.Labels.{spot_label}
use Rattle.feats_why.specs.declared.unbuilt.UnbuiltSpot.{UnbuiltSpot}

-- A spot that is on, whose package isn't built there; and the package that lacks a build script, if that is the reason.
pub record UnbuiltText : Type 0 where
  pub spot : SpotText
  pub lacking : Option ℕ

abbrev pub unbuilt_text : UnbuiltSpot → UnbuiltText
unbuilt_text u = record { spot = spot_text u.spot; lacking = u.lacking }

-- A package itself, on a side.
abbrev pub base_at : Side → ℕ → SpotText
base_at side p = record { side = side; number = p; label = base }

abbrev pub lacking_text : List PackageText → Bool → Option ℕ → Text
lacking_text packages sides None = []
lacking_text packages sides (Some p) = codes ": " ++ (spot_label packages sides (base_at Target p) ++ codes " has no build script")

-- The message about a spot: it is asked for, and its package isn't built.
abbrev pub unbuilt_message : List PackageText → Bool → UnbuiltText → Text
unbuilt_message packages sides u =
    codes "asked for, but " ++ (spot_label packages sides (base_at u.spot.side u.spot.number) ++ (codes " isn't built" ++ lacking_text packages sides u.lacking))

-- The line of a spot.
abbrev pub unbuilt_line : List PackageText → Bool → UnbuiltText → Text
unbuilt_line packages sides u = spot_label packages sides u.spot ++ (codes " is " ++ (unbuilt_message packages sides u ++ codes "\n"))

abbrev pub unbuilt_lines : List PackageText → Bool → List UnbuiltText → Text
unbuilt_lines packages sides list = flat_map (unbuilt_line packages sides) list
