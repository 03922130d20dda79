-- The entry of a package that may be started.
use Rattle.std.specs.Prelude.{List, [], ◌++◌, Bool, true, false, Option, None, Some}
use Rattle.cargo_workspaces.specs.Workspaces.{FeatureText, PackageText}
use Rattle.plan_rows.specs.Steps.{dependencies_by, resolved_lead}
use Rattle.plan_rows.specs.Tables.{Entry}

-- The features, the command feature and the dependencies of `x` as a started package; nothing, if it isn't `started`.
abbrev pub start : Bool → List FeatureText → Option (List FeatureText) → PackageText → Entry
start false features command x = record { features = []; dependencies = [] }
start true features None x = record { features = []; dependencies = [] }
start true features (Some command) x = record { features = features ++ command; dependencies = dependencies_by false (resolved_lead true) x.declarations }
