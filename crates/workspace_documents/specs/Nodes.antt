-- The members of the workspace, and the packages that each package uses.
use Rattle.std.specs.Prelude.{ℕ, List, [], ◌∷◌, codes, Bool, Option, Some, None, Result, Ok, Err, ⊤}
use Rattle.std.specs.List.{list_any}
use Rattle.std.specs.Option.{unwrap_or}
use Rattle.json.specs.Json.{Json, Items, null, boolean, number, string, array, object}
use Rattle.json.specs.Find.{get}
use Rattle.cargo_json.specs.declared.fault.Place.{Place}
use Rattle.cargo_json.specs.declared.fault.Place.TheVariants as place
use Rattle.cargo_json.specs.Faults.{Text, Refusal, no_package, no_deps, ◌>>=◌}
use Rattle.cargo_json.specs.Fields.{wanted, text_in, list_in, texts_in}
use Rattle.workspace_documents.specs.Lists.{each, ById, at_id, each_by_id}
use Rattle.workspace_documents.specs.Packages.{UseText, use_in, same_use, PackageText}
use Rattle.workspace_documents.specs.Targets.{texts_at}

-- the package that was found, or the fault that no package has the `id` in the field `name`
abbrev pub found_or : {X : Type 0} → Place → Text → Text → Option X → Result X Refusal
found_or at name id (Some p) = Ok p
found_or at name id None = Err (no_package at name id)

unfoldable pub package_at : ById PackageText → Place → Text → Text → Result PackageText Refusal
package_at packages at name id = found_or at name id (at_id id packages)

-- a used package, the name by which code calls it, and whether it is used for a kind and a platform
pub record DepText : Type 0 where
  pub extern_name : Text
  pub target : PackageText
  pub uses : UseText → Bool

-- whether the used package at place `i` of node `n` is used for a kind and a platform: whether one of the items has them; or the first fault
abbrev pub uses_in : ℕ → ℕ → Items → Result (UseText → Bool) Refusal
uses_in n i kinds = each (λ k. use_in (place.DepKind n i k)) 0 kinds >>= λ uses. Ok (λ asked. list_any (λ u. same_use u asked) uses)

-- the used package at place `i` of node `n`, or its first fault
unfoldable pub dep_in : ById PackageText → ℕ → ℕ → Json → Result DepText Refusal
dep_in packages n i d =
    text_in (place.Dep n i) (codes "name") d >>= λ extern_name.
    text_in (place.Dep n i) (codes "pkg") d >>= λ id.
    list_in (place.Dep n i) (codes "dep_kinds") d >>= λ kinds.
    package_at packages (place.Dep n i) (codes "pkg") id >>= λ target.
    uses_in n i kinds >>= λ uses.
    Ok (record { extern_name = extern_name; target = target; uses = uses })

-- the node of a package: its enabled features and the packages that it uses
pub record NodeText : Type 0 where
  pub features : List Text
  pub deps : List DepText

-- the empty node, for a package that has none
abbrev pub no_node : NodeText
no_node = record { features = []; deps = [] }

-- The node at place n, with its package's id. Without a list of texts in `features`, no feature is enabled.
unfoldable pub node_in : ById PackageText → ℕ → Json → Result (Text × NodeText) Refusal
node_in packages n d =
    text_in (place.Node n) (codes "id") d >>= λ id.
    package_at packages (place.Node n) (codes "id") id >>= λ _.
    list_in (place.Node n) (codes "deps") d >>= λ objects.
    each (dep_in packages n) 0 objects >>= λ deps.
    Ok (id, record { features = texts_at (codes "features") d; deps = deps })

-- null is a fault: `resolve` is null if the document was made with --no-deps
abbrev pub with_deps : Json → Result ⊤ Refusal
with_deps null = Err no_deps
with_deps (boolean b) = Ok tt
with_deps (number n) = Ok tt
with_deps (string s) = Ok tt
with_deps (array ds) = Ok tt
with_deps (object ms) = Ok tt

-- the field `resolve` of the document
unfoldable pub resolve_in : Json → Result Json Refusal
resolve_in d =
    wanted place.Document (codes "resolve") (get (codes "resolve") d) >>= λ resolve.
    with_deps resolve >>= λ _.
    Ok resolve

-- the nodes of the document, by their packages' ids
unfoldable pub nodes_in : ById PackageText → Json → Result (ById NodeText) Refusal
nodes_in packages d =
    resolve_in d >>= λ resolve.
    list_in place.Resolve (codes "nodes") resolve >>=
    each_by_id (node_in packages) place.Node 0 []

-- each id of the document's field of this name is a package's, or the first fault
abbrev pub known : ById PackageText → Text → List Text → Result ⊤ Refusal
known packages name [] = Ok tt
known packages name (id ∷ ids) = package_at packages place.Document name id >>= λ _. known packages name ids

-- the ids that the document's field of this name lists
unfoldable pub members_in : ById PackageText → Text → Json → Result (List Text) Refusal
members_in packages name d =
    texts_in place.Document name d >>= λ ids.
    known packages name ids >>= λ _.
    Ok ids

-- the node of the package with this id
abbrev pub node_of : Text → ById NodeText → NodeText
node_of id nodes = unwrap_or (at_id id nodes) no_node

-- the ids of the workspace's members, and the nodes
pub record ResolvedText : Type 0 where
  pub members : List Text
  pub nodes : ById NodeText

unfoldable pub resolved_in : ById PackageText → Json → Result ResolvedText Refusal
resolved_in packages d =
    members_in packages (codes "workspace_members") d >>= λ members.
    nodes_in packages d >>= λ nodes.
    Ok (record { members = members; nodes = nodes })
