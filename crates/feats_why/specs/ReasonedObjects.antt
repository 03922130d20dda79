-- The JSON objects that show an explanation with every direct reason.
use Rattle.std.specs.Prelude.{List, [], ◌∷◌, ◌++◌, flat_map, codes, if◌then◌else◌}
use Rattle.json.specs.Token.{Token, begin_object, end_object, begin_array, end_array, key}
use Rattle.json.specs.Print.{print}
use Rattle.cargo_workspaces.specs.Workspaces.{Text, PackageText}
use Rattle.feats_why.specs.Objects.{reason_platforms, reason_tokens, spot_members}
use Rattle.feats_why.specs.Relations.{is_shown}
use Rattle.feats_why.specs.Settings.{SettingsText}
use Rattle.plan_whys.specs.Steps.{SpotText, ReasonText, ReasonedText, WhyText}

-- The members of a reason, for the platforms that it counts on.
abbrev pub reason_members : List PackageText → SettingsText → SpotText → ReasonText → List Token
reason_members packages s at reason = reason_tokens packages (reason_platforms packages s at reason) at reason

-- The object of a reason.
abbrev pub reason_object : List PackageText → SettingsText → SpotText → ReasonText → List Token
reason_object packages s at reason = begin_object ∷ (reason_members packages s at reason ++ end_object ∷ [])

-- The member with every direct reason.
abbrev pub reasons_member : List PackageText → SettingsText → SpotText → List ReasonText → List Token
reasons_member packages s at reasons = key (codes "reasons") ∷ begin_array ∷ (flat_map (reason_object packages s at) reasons ++ end_array ∷ [])

-- The members of a step.
abbrev pub step_members : List PackageText → SettingsText → WhyText → List Token
step_members packages s step = spot_members packages step.spot ++ reason_members packages s step.spot step.reason

-- The object of a step, with every direct reason.
abbrev pub reasoned_object : List PackageText → SettingsText → ReasonedText → List Token
reasoned_object packages s r =
    begin_object ∷ (step_members packages s r.step ++ (reasons_member packages s r.step.spot r.reasons ++ end_object ∷ []))

-- The line of a step; nothing, if the step isn't shown.
abbrev pub reasoned_line : List PackageText → SettingsText → ReasonedText → Text
reasoned_line packages s r = if is_shown r.step then print (reasoned_object packages s r) ++ 10 ∷ [] else []

-- A line with an object for each step that is shown.
abbrev pub reasoned_objects : List PackageText → SettingsText → List ReasonedText → Text
reasoned_objects packages s steps = flat_map (reasoned_line packages s) steps
