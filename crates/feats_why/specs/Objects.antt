-- The JSON objects that show an explanation.
use Rattle.std.specs.Prelude.{◌≡◌, ℕ, List, [], ◌∷◌, ◌++◌, map, flat_map, Option, None, Some, codes, slice_get, if◌then◌else◌}
use Rattle.std.specs.Option.{option_map_or}
use Rattle.json.specs.Token.{Token, begin_object, end_object, begin_array, end_array, key, string, null}
use Rattle.json.specs.Print.{print}
use Rattle.json.specs.Written.{Written}
use Rattle.cargo_workspaces.specs.Workspaces.{Text, PackageText}
use Rattle.feature_labels.specs.Names.{LabelName, base, named, optional}
use Rattle.feats_lines.specs.Objects.{member}
use Rattle.plan_rows.specs.declared.side.Side.{Side}
use Rattle.plan_rows.specs.declared.side.Side.TheVariants as side
use Rattle.feats_why.specs.Platforms.{shown_platforms}
use Rattle.feats_why.specs.Relations.{is_command_spot, is_shown, relation_of}
use Rattle.feats_why.specs.Settings.{SettingsText}
use Rattle.plan_whys.specs.Steps.{SpotText, ReasonText, WhyText, selected, from}
use Rattle.feats_why.specs.declared.relations.Relation.{Relation}
use Rattle.feats_why.specs.declared.relations.Relation.TheVariants as relation

-- The tokens were appended, and what was before them stays.
pub record Appends (old new : Written) (appended : List Token) : Type 0 where
  pub before : new.before ≡ old.before
  pub tokens : new.tokens ≡ old.tokens ++ appended

-- The id of package `p`; nothing, if there is no such package.
abbrev pub id_at : List PackageText → ℕ → Text
id_at packages p = option_map_or (λ x. x.id) (slice_get packages p) []

abbrev pub feature_name : LabelName → Option Text
feature_name base = None
feature_name (named name) = Some name
feature_name (optional name) = None

abbrev pub dependency_name : LabelName → Option Text
dependency_name base = None
dependency_name (named name) = None
dependency_name (optional name) = Some name

abbrev pub side_word : Side → Text
side_word side.Target = codes "target"
side_word side.Host = codes "host"

-- A string, or null.
abbrev pub text_or_null : Option Text → Token
text_or_null None = null
text_or_null (Some text) = string text

-- The members of a spot.
abbrev pub spot_members : List PackageText → SpotText → List Token
spot_members packages s =
    member (codes "package") (id_at packages s.number)
    ++ (key (codes "feature") ∷ text_or_null (feature_name s.label)
    ∷ key (codes "dependency") ∷ text_or_null (dependency_name s.label)
    ∷ member (codes "side") (side_word s.side))

-- The object of a spot, or null.
abbrev pub spot_or_null : List PackageText → Option SpotText → List Token
spot_or_null packages None = null ∷ []
spot_or_null packages (Some s) = begin_object ∷ (spot_members packages s ++ end_object ∷ [])

-- The word for a relation.
abbrev pub reason_word : Relation → Text
reason_word relation.Selected = codes "selected"
reason_word relation.Default = codes "default"
reason_word relation.Asked = codes "selected"
reason_word relation.TurnsOn = codes "turns-on"
reason_word relation.Needs = codes "turns-on"
reason_word relation.Depends = codes "depends"
reason_word relation.Asks = codes "asks"

-- The spot from which a reason leads: none, if that is the selection.
abbrev pub shown_start : ReasonText → Option SpotText
shown_start selected = None
shown_start (from start gate) = if is_command_spot start then None else Some start

-- The spot of the gate, if the reason has one.
abbrev pub shown_gate : ReasonText → Option SpotText
shown_gate selected = None
shown_gate (from start gate) = gate

abbrev pub reason_platforms : List PackageText → SettingsText → SpotText → ReasonText → List Text
reason_platforms packages s at selected = []
reason_platforms packages s at (from start gate) = shown_platforms s packages start at

abbrev pub platform_tokens : List Text → List Token
platform_tokens platforms = key (codes "platforms") ∷ begin_array ∷ (map string platforms ++ end_array ∷ [])

-- The members of a reason, which is for these platforms.
abbrev pub reason_tokens : List PackageText → List Text → SpotText → ReasonText → List Token
reason_tokens packages platforms at reason =
    member (codes "reason") (reason_word (relation_of at reason))
    ++ (key (codes "from") ∷ (spot_or_null packages (shown_start reason)
    ++ (key (codes "gate") ∷ (spot_or_null packages (shown_gate reason) ++ platform_tokens platforms))))

-- The object of a step, whose reason is for these platforms.
abbrev pub object_tokens : List PackageText → List Text → WhyText → List Token
object_tokens packages platforms step =
    begin_object ∷ (spot_members packages step.spot ++ (reason_tokens packages platforms step.spot step.reason ++ end_object ∷ []))

abbrev pub step_object : List PackageText → SettingsText → WhyText → List Token
step_object packages s step = object_tokens packages (reason_platforms packages s step.spot step.reason) step

-- The object of a step; nothing, if the step isn't shown.
abbrev pub shown_object : List PackageText → SettingsText → WhyText → List Token
shown_object packages s step = if is_shown step then step_object packages s step else []

-- The objects of the steps, in their order.
abbrev pub step_objects : List PackageText → SettingsText → List WhyText → List Token
step_objects packages s steps = flat_map (shown_object packages s) steps

-- The line of a step; nothing, if the step isn't shown.
abbrev pub object_line : List PackageText → SettingsText → WhyText → Text
object_line packages s step = if is_shown step then print (step_object packages s step) ++ 10 ∷ [] else []

-- A line with an object for each step that is shown.
abbrev pub why_objects : List PackageText → SettingsText → List WhyText → Text
why_objects packages s steps = flat_map (object_line packages s) steps
