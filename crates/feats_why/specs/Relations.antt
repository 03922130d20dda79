-- How the start of a step leads to its spot.
use Rattle.std.specs.Prelude.{Bool, true, false, not, ◌&&◌, codes, nat_eq, if◌then◌else◌}
use Rattle.std.specs.Str.{bytes_eq}
use Rattle.cargo_workspaces.specs.Workspaces.{Text}
use Rattle.feature_labels.specs.Names.{LabelName, base, named, optional}
use Rattle.plan_whys.specs.Steps.{SpotText, ReasonText, WhyText, selected, from}
use Rattle.feats_why.specs.declared.relations.Relation.{Relation}
use Rattle.feats_why.specs.declared.relations.Relation.TheVariants as relation

abbrev pub is_base : LabelName → Bool
is_base base = true
is_base (named name) = false
is_base (optional name) = false

abbrev pub is_named : LabelName → Bool
is_named base = false
is_named (named name) = true
is_named (optional name) = false

abbrev pub is_feature : Text → LabelName → Bool
is_feature name base = false
is_feature name (named feature) = bytes_eq feature name
is_feature name (optional dependency) = false

-- Whether the spot is a command feature: what the selection asks of a package.
abbrev pub is_command_spot : SpotText → Bool
is_command_spot s = is_feature (codes "[command]") s.label

-- Steps at command features aren't shown.
abbrev pub is_shown : WhyText → Bool
is_shown step = not (is_command_spot step.spot)

-- From a command feature to a part of its package, or of another package.
abbrev pub from_command : Bool → SpotText → Relation
from_command same at = if not same then relation.Asked else if is_feature (codes "default") at.label then relation.Default else relation.Selected

-- From a part of a package to another part of it.
abbrev pub within : SpotText → Relation
within at = if is_base at.label then relation.Needs else relation.TurnsOn

-- From a part of a package to a part of another one.
abbrev pub between : SpotText → SpotText → Relation
between start at = if is_base at.label && not (is_named start.label) then relation.Depends else relation.Asks

abbrev pub relation_by : Bool → SpotText → SpotText → Relation
relation_by same start at = if is_command_spot start then from_command same at else if same then within at else between start at

abbrev pub relation_from : SpotText → SpotText → Relation
relation_from start at = relation_by (nat_eq start.number at.number) start at

abbrev pub relation_of : SpotText → ReasonText → Relation
relation_of at selected = relation.Selected
relation_of at (from start gate) = relation_from start at

-- Whether the declarations of the start's package lead to the spot's package.
abbrev pub is_by_declaration : Relation → Bool
is_by_declaration relation.Selected = false
is_by_declaration relation.Default = false
is_by_declaration relation.Asked = false
is_by_declaration relation.TurnsOn = false
is_by_declaration relation.Needs = false
is_by_declaration relation.Depends = true
is_by_declaration relation.Asks = true
