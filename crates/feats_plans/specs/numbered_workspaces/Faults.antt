-- The workspace of a document, or the reason why it has none.
use Rattle.std.specs.Prelude.{List, Option, Some, None, Result, Ok, Err, map, option_map, option_and_then, find, if◌then◌else◌, ⊤}
use Rattle.std.specs.Option.{option_or}
use Rattle.std.specs.Str.{bytes_eq}
use Rattle.json.specs.Json.{Json}
use Rattle.cargo_json.specs.Faults.{Refusal}
use Rattle.cargo_workspaces.specs.Workspaces.{Text, FeatureText, DeclarationText, PackageText, WorkspaceText, may_name_feature, both_lead_to}
use Rattle.workspace_documents.specs.Lists.{first_some}
use Rattle.workspace_documents.specs.Leads.{DescribedText, described_in}
use Rattle.feats_plans.specs.numbered_workspaces.Numbers.{numbered}

-- Why a document has no workspace: its fault, a package's id with the name of a feature, or with two names of one dependency.
pub data NoWorkspace : Type 0 where
  unread : Refusal → NoWorkspace
  feature_name : Text → Text → NoWorkspace
  two_names : Text → Text → Text → NoWorkspace

-- The name of a feature, if it may not be one.
abbrev pub bad_name : FeatureText → Option Text
bad_name f = if may_name_feature f.name then None else Some f.name

-- The first of the declarations that leads to the same package.
abbrev pub first_alike : List DeclarationText → DeclarationText → Option DeclarationText
first_alike ds d = find (λ e. both_lead_to d.leads_to e.leads_to) ds

-- The names of two declarations, if they differ.
abbrev pub if_two : DeclarationText → DeclarationText → Option (Text × Text)
if_two e d = if bytes_eq e.name d.name then None else Some (e.name, d.name)

-- The name of the first declaration that leads to the same package, and the declaration's own, if they differ.
abbrev pub other_names : List DeclarationText → DeclarationText → Option (Text × Text)
other_names ds d = option_and_then (λ e. if_two e d) (first_alike ds d)

-- The first declaration that has another name than the first one that leads to the same package: the two names.
abbrev pub two_names_of : List DeclarationText → Option (Text × Text)
two_names_of ds = first_some (map (other_names ds) ds)

-- The first fault of a package.
abbrev pub fault_of : PackageText → Option NoWorkspace
fault_of p = option_or (option_map (feature_name p.id) (first_some (map bad_name p.features))) (option_map (λ n. two_names p.id n.0 n.1) (two_names_of p.declarations))

abbrev pub ok_unless : {X : Type 0} → Option NoWorkspace → X → Result X NoWorkspace
ok_unless None x = Ok x
ok_unless (Some fault) x = Err fault

-- The result of a check: the fault, if there is one.
abbrev pub unless : Option NoWorkspace → Result ⊤ NoWorkspace
unless fault = ok_unless {X = ⊤} fault tt

-- The workspace, or the first fault of its packages.
abbrev pub checked : WorkspaceText → Result WorkspaceText NoWorkspace
checked w = ok_unless (first_some (map fault_of w.packages)) w

abbrev pub workspace_of : Result DescribedText Refusal → Result WorkspaceText NoWorkspace
workspace_of (Ok t) = checked (numbered t)
workspace_of (Err refusal) = Err (unread refusal)

-- The workspace of a document, or its first fault.
unfoldable pub workspace_in : Json → Result WorkspaceText NoWorkspace
workspace_in d = workspace_of (described_in d)
