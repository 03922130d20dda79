-- The reasons of steps, in words.
use Rattle.std.specs.Prelude.{List, [], ◌∷◌, ◌++◌, flat_map, Bool, Option, None, Some, codes, if◌then◌else◌}
use Rattle.cargo_workspaces.specs.Workspaces.{Text, PackageText}
use Rattle.feature_labels.specs.Names.{base}
use Rattle.feats_why.specs.Labels.{spot_label}
use Rattle.feats_why.specs.Platforms.{shown_platforms}
use Rattle.feats_why.specs.Relations.{is_named, relation_from}
use Rattle.feats_why.specs.Settings.{SettingsText}
use Rattle.plan_whys.specs.Steps.{SpotText, ReasonText, selected, from}
use Rattle.feats_why.specs.declared.relations.Relation.{Relation}
use Rattle.feats_why.specs.declared.relations.Relation.TheVariants as relation

-- The spot of the package of a spot.
abbrev pub package_spot : SpotText → SpotText
package_spot s = record { side = s.side; number = s.number; label = base }

-- The feature, if the spot is one, and else its package.
abbrev pub asker : SpotText → SpotText
asker s = if is_named s.label then s else package_spot s

-- The spot that the words begin with, if there is one.
abbrev pub subject : Relation → SpotText → Option SpotText
subject relation.Selected start = None
subject relation.Default start = Some (package_spot start)
subject relation.Asked start = None
subject relation.TurnsOn start = Some start
subject relation.Needs start = Some start
subject relation.Depends start = Some (package_spot start)
subject relation.Asks start = Some (asker start)

-- The words after it.
abbrev pub relation_words : Relation → Text
relation_words relation.Selected = codes "selected"
relation_words relation.Default = codes " has it by default"
relation_words relation.Asked = codes "asked for by the selection"
relation_words relation.TurnsOn = codes " turns it on"
relation_words relation.Needs = codes " needs it"
relation_words relation.Depends = codes " depends on it"
relation_words relation.Asks = codes " asks for it"

abbrev pub subject_text : List PackageText → Bool → Option SpotText → Text
subject_text packages sides None = []
subject_text packages sides (Some s) = spot_label packages sides s

abbrev pub and_text : Text → Text
and_text text = codes " and " ++ text

-- The end of the words about a platform and more of them.
abbrev pub holding_words : List Text → Text
holding_words [] = codes ", which holds"
holding_words (t ∷ ts) = codes ", which hold"

-- For which platforms a package depends on another one.
abbrev pub platform_words : List Text → Text
platform_words [] = []
platform_words (t ∷ ts) = codes " for " ++ (t ++ (flat_map and_text ts ++ holding_words ts))

-- The optional dependency that must be on too.
abbrev pub gate_words : List PackageText → Bool → Option SpotText → Text
gate_words packages sides None = []
gate_words packages sides (Some gate) = codes ", as " ++ (spot_label packages sides gate ++ codes " is on")

abbrev pub reason_by : List PackageText → Bool → SpotText → Relation → Text
reason_by packages sides start r = subject_text packages sides (subject r start) ++ relation_words r

abbrev pub reason_words : List PackageText → SettingsText → SpotText → ReasonText → Text
reason_words packages s at selected = codes "selected"
reason_words packages s at (from start gate) =
    reason_by packages s.split start (relation_from start at) ++ (platform_words (shown_platforms s packages start at) ++ gate_words packages s.split gate)
