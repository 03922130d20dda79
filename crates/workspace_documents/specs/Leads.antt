-- What a document says about a workspace, by the ids of packages.
use Rattle.std.specs.Prelude.{List, [], ◌∷◌, codes, Bool, true, false, Option, Some, None, Result, Ok, option_map}
use Rattle.json.specs.Json.{Json}
use Rattle.cargo_json.specs.declared.fault.Place.TheVariants as place
use Rattle.cargo_json.specs.Faults.{Text, Refusal, ◌>>=◌}
use Rattle.cargo_json.specs.Fields.{optional_text_in}
use Rattle.workspace_documents.specs.Lists.{ById}
use Rattle.workspace_documents.specs.Packages.{DeclarationText, PackageText, packages_in}
use Rattle.workspace_documents.specs.Nodes.{DepText, NodeText, package_at, resolve_in, members_in, node_of, resolved_in}
use Rattle.workspace_documents.specs.Dependencies.{FoundPackage, nothing, one, several, choice, led_to}

-- The package that a declaration leads to, by what was found for it. An optional one leads to none of several.
abbrev pub single : Bool → FoundPackage → FoundPackage
single optional nothing = nothing
single optional (one p) = one p
single true several = nothing
single false several = several

-- The id of the package that a declaration of the package `id` leads to, if any. A required one for which several are found is a fault.
unfoldable pub lead_in : Text → List DepText → DeclarationText → Result (Option Text) Refusal
lead_in id deps d = led_to id d.name (single d.is_optional (choice id d deps)) >>= λ target. Ok (option_map (λ p. p.id) target)

-- The same for each declaration, in their order, or the first fault.
abbrev pub leads_in : Text → List DepText → List DeclarationText → Result (List (Option Text)) Refusal
leads_in id deps [] = Ok []
leads_in id deps (d ∷ ds) = lead_in id deps d >>= λ lead. leads_in id deps ds >>= λ rest. Ok (lead ∷ rest)

-- The same for each package, in their order.
abbrev pub all_leads : ById NodeText → ById PackageText → Result (ById (List (Option Text))) Refusal
all_leads nodes [] = Ok []
all_leads nodes (e ∷ es) = leads_in e.1.id (node_of e.0 nodes).deps e.1.declarations >>= λ leads. all_leads nodes es >>= λ rest. Ok ((e.0, leads) ∷ rest)

-- An id, if there is one, is a package's.
abbrev pub root_of : ById PackageText → Option Text → Result (Option Text) Refusal
root_of packages None = Ok None
root_of packages (Some id) = package_at packages place.Resolve (codes "root") id >>= λ _. Ok (Some id)

-- The id of the package in whose folder the document was made; null if there is none.
unfoldable pub root_in : ById PackageText → Json → Result (Option Text) Refusal
root_in packages d =
    resolve_in d >>= λ resolve.
    optional_text_in place.Resolve (codes "root") resolve >>=
    root_of packages

-- What a document says beside its packages.
pub record LinksText : Type 0 where
  pub members : List Text
  pub default_members : List Text
  pub root : Option Text
  pub leads : ById (List (Option Text))

unfoldable pub links_in : ById PackageText → Json → Result LinksText Refusal
links_in packages d =
    resolved_in packages d >>= λ resolved.
    members_in packages (codes "workspace_default_members") d >>= λ default_members.
    root_in packages d >>= λ root.
    all_leads resolved.nodes packages >>= λ leads.
    Ok (record { members = resolved.members; default_members = default_members; root = root; leads = leads })

-- The workspace that a document describes.
pub record DescribedText : Type 0 where
  pub packages : ById PackageText
  pub links : LinksText

abbrev pub with_links : ById PackageText → Json → Result DescribedText Refusal
with_links packages d = links_in packages d >>= λ links. Ok (record { packages = packages; links = links })

unfoldable pub described_in : Json → Result DescribedText Refusal
described_in d = packages_in d >>= λ packages. with_links packages d
