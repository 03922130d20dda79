-- A document, by its packages and its other fields.
use Rattle.std.proofs.Common.{◌≡◌, ◌∙◌, sym, ap, refl}
use Rattle.std.specs.Prelude.{Ok, Option, codes}
use Rattle.json.specs.Json.{Json}
use Rattle.json.specs.Find.{get}
use Rattle.cargo_json.specs.Faults.{Text}
use Rattle.cargo_json.specs.Parts.{Parts}
use Rattle.workspace_documents.specs.Lists.{ById}
use Rattle.workspace_documents.specs.Packages.{PackageText, packages_at, packages_in}
use Rattle.workspace_documents.specs.Nodes.{resolve_in, members_in, nodes_in, resolved_in}
use Rattle.workspace_documents.specs.Leads.{root_in, links_in, with_links, described_in}

same_resolve : (a b : Json) → get (codes "resolve") a ≡ get (codes "resolve") b → resolve_in a ≡ resolve_in b
unfolding resolve_in
same_resolve a b e = rw e refl

same_members : (packages : ById PackageText) (name : Text) (a b : Json) → get name a ≡ get name b → members_in packages name a ≡ members_in packages name b
unfolding members_in
same_members packages name a b e = rw e refl

same_nodes : (packages : ById PackageText) (a b : Json) → resolve_in a ≡ resolve_in b → nodes_in packages a ≡ nodes_in packages b
unfolding nodes_in
same_nodes packages a b e = rw e refl

same_root : (packages : ById PackageText) (a b : Json) → resolve_in a ≡ resolve_in b → root_in packages a ≡ root_in packages b
unfolding root_in
same_root packages a b e = rw e refl

same_resolved : (packages : ById PackageText) (a b : Json) → members_in packages (codes "workspace_members") a ≡ members_in packages (codes "workspace_members") b → nodes_in packages a ≡ nodes_in packages b → resolved_in packages a ≡ resolved_in packages b
unfolding resolved_in
same_resolved packages a b e f = rw (e, f) refl

same_links : (packages : ById PackageText) (a b : Json) → resolved_in packages a ≡ resolved_in packages b → members_in packages (codes "workspace_default_members") a ≡ members_in packages (codes "workspace_default_members") b → root_in packages a ≡ root_in packages b → links_in packages a ≡ links_in packages b
unfolding links_in
same_links packages a b e f g = rw (e, f, g) refl

module _ (d : Json) (found : Option Json) (rest : Json) (parts : Parts d found rest) (packages : ById PackageText) (were : packages_at found ≡ Ok packages) where
  pub listed : packages_in d ≡ Ok packages
  unfolding packages_in
  listed = ap packages_at (sym parts.taken) ∙ were

  resolve : resolve_in d ≡ resolve_in rest
  resolve = same_resolve d rest (sym (parts.others (codes "resolve") refl))

  pub of_resolved : resolved_in packages d ≡ resolved_in packages rest
  of_resolved = same_resolved packages d rest (same_members packages (codes "workspace_members") d rest (sym (parts.others (codes "workspace_members") refl))) (same_nodes packages d rest resolve)

  of_links : links_in packages d ≡ links_in packages rest
  of_links = same_links packages d rest of_resolved (same_members packages (codes "workspace_default_members") d rest (sym (parts.others (codes "workspace_default_members") refl))) (same_root packages d rest resolve)

  -- a document's result is that of its other fields, with the packages that were read
  pub described_by : described_in d ≡ with_links packages rest
  unfolding described_in
  described_by = rw (listed, of_links) refl
