-- Where declarations lead, one after the other.
use Rattle.std.proofs.Common.{◌≡◌, ◌∙◌, sym, ap, refl, ℕ, ◌+◌, ◌<◌, List, [], ◌∷◌, ◌++◌, map, length, drop, get_or, add-one, drop-cons, Bor}
use Rattle.std.specs.Prelude.{Option, Result, Ok, Err}
use Rattle.cargo_json.specs.Faults.{Text, Refusal, IfNotMemory}
use Rattle.workspace_documents.specs.declared.packages.Declaration.{Declaration}
use Rattle.workspace_documents.specs.declared.packages.Package.{Package}
use Rattle.workspace_documents.specs.Lists.{ById}
use Rattle.workspace_documents.specs.Nodes.{DepText, NodeText, node_of}
use Rattle.workspace_documents.specs.Leads.{lead_in, leads_in, all_leads}
use Rattle.workspace_documents.specs.Views.{declaration_view, package_view, entries_view}
use Rattle.workspace_documents.proofs.Lists.{if_not_memory, prepend, prepend_one}

-- one more declaration
module _ (id : Text) (deps : List DepText) (ds : List Declaration) (i : ℕ) (d : Declaration) (leads : List (Option Text)) (whole : Result (List (Option Text)) Refusal) (within : i < length ds) (is : d ≡ get_or ds i d) (so : whole ≡ prepend leads (leads_in id deps (map declaration_view (drop i ds)))) where
  here : map declaration_view (drop i ds) ≡ declaration_view d ∷ map declaration_view (drop (i + 1) ds)
  here =
      let at : drop i ds ≡ get_or ds i d ∷ drop (i + 1) ds = rw (add-one, drop-cons ds i d within) refl in
      rw at (ap (λ x. declaration_view x ∷ map declaration_view (drop (i + 1) ds)) (sym is))

  pub leads_more : (lead : Option Text) → lead_in id deps (declaration_view d) ≡ Ok lead → whole ≡ prepend (leads ++ lead ∷ []) (leads_in id deps (map declaration_view (drop (i + 1) ds)))
  leads_more lead e = so ∙ rw (here, e) (prepend_one leads lead (leads_in id deps (map declaration_view (drop (i + 1) ds))))

  pub leads_refused : (r : Refusal) → IfNotMemory r (lead_in id deps (declaration_view d) ≡ Err r) → IfNotMemory r (whole ≡ Err r)
  leads_refused r e = if_not_memory r (λ (q : lead_in id deps (declaration_view d) ≡ Err r). so ∙ rw (here, q) refl) e

-- one more package
module _ (nodes : ById NodeText) (left rest : List (Bor Text × Package)) (id : Bor Text) (p : Package) (deps : List DepText) (all : ById (List (Option Text))) (whole : Result (ById (List (Option Text))) Refusal) (is : left ≡ (id, p) ∷ rest) (used : deps ≡ (node_of id.now nodes).deps) (so : whole ≡ prepend all (all_leads nodes (entries_view package_view left))) where
  pub all_more : (leads : List (Option Text)) → leads_in p.id.now deps (map declaration_view p.declarations.items) ≡ Ok leads → whole ≡ prepend (all ++ (id.now, leads) ∷ []) (all_leads nodes (entries_view package_view rest))
  all_more leads e = so ∙ rw (is, sym used, e) (prepend_one all (id.now, leads) (all_leads nodes (entries_view package_view rest)))

  pub all_refused : (r : Refusal) → IfNotMemory r (leads_in p.id.now deps (map declaration_view p.declarations.items) ≡ Err r) → IfNotMemory r (whole ≡ Err r)
  all_refused r e = if_not_memory r (λ (q : leads_in p.id.now deps (map declaration_view p.declarations.items) ≡ Err r). so ∙ rw (is, sym used, q) refl) e
