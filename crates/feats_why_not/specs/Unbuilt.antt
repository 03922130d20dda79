-- What is said of a part that is on, in a package that isn't built.
use Rattle.std.specs.Prelude.{ℕ, Option, None, Some}
use Rattle.cargo_workspaces.specs.Workspaces.{Text}
use Rattle.plan_rows.specs.declared.side.Side.{Side}
use Rattle.feats_why.specs.Unbuilt.{UnbuiltText}
use Rattle.feats_why_not.specs.Parts.{PartText, spot_on}
use Rattle.feats_why_not.specs.Standings.{StandingText, built_on, off, unbuilt_on}

-- The part on a side. `lacking` is the package that lacks a build script for the part's package, if there is one.
abbrev pub unbuilt_at : Option ℕ → PartText → Side → UnbuiltText
unbuilt_at lacking part side = record { spot = spot_on side part; lacking = lacking }

-- The message about a part that stands so, if it is on and isn't built. It depends on the side.
abbrev pub message_if : (Side → Text) → StandingText → Option Text
message_if message (built_on side) = None
message_if message (unbuilt_on side) = Some (message side)
message_if message off = None
