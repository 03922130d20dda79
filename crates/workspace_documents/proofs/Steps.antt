-- What is read of a document step by step.
use Rattle.std.proofs.Common.{◌≡◌, refl, List}
use Rattle.std.specs.Prelude.{Option, Ok, Err, codes}
use Rattle.json.specs.Json.{Json}
use Rattle.cargo_json.specs.Faults.{Text, Refusal, IfNotMemory}
use Rattle.workspace_documents.specs.Lists.{ById}
use Rattle.workspace_documents.specs.Packages.{PackageText}
use Rattle.workspace_documents.specs.Nodes.{NodeText, ResolvedText, members_in, nodes_in, resolved_in}
use Rattle.workspace_documents.specs.Leads.{root_in, all_leads, links_in}
use Rattle.workspace_documents.proofs.Lists.{if_not_memory}

module _ (packages : ById PackageText) (d : Json) where
  pub no_members : (r : Refusal) → IfNotMemory r (members_in packages (codes "workspace_members") d ≡ Err r) → IfNotMemory r (resolved_in packages d ≡ Err r)
  unfolding resolved_in
  no_members r h = if_not_memory r (λ (q : members_in packages (codes "workspace_members") d ≡ Err r). rw q refl) h

  module _ (members : List Text) (were_members : members_in packages (codes "workspace_members") d ≡ Ok members) where
    pub no_nodes : (r : Refusal) → IfNotMemory r (nodes_in packages d ≡ Err r) → IfNotMemory r (resolved_in packages d ≡ Err r)
    unfolding resolved_in
    no_nodes r h = if_not_memory r (λ (q : nodes_in packages d ≡ Err r). rw (were_members, q) refl) h

    pub resolved_are : (nodes : ById NodeText) → nodes_in packages d ≡ Ok nodes → resolved_in packages d ≡ Ok (record { members = members; nodes = nodes })
    unfolding resolved_in
    resolved_are nodes q = rw (were_members, q) refl

  module _ (resolved : ResolvedText) (were : resolved_in packages d ≡ Ok resolved) where
    pub no_default_members : (r : Refusal) → IfNotMemory r (members_in packages (codes "workspace_default_members") d ≡ Err r) → IfNotMemory r (links_in packages d ≡ Err r)
    unfolding links_in
    no_default_members r h = if_not_memory r (λ (q : members_in packages (codes "workspace_default_members") d ≡ Err r). rw (were, q) refl) h

    module _ (members : List Text) (were_members : members_in packages (codes "workspace_default_members") d ≡ Ok members) where
      pub no_root : (r : Refusal) → IfNotMemory r (root_in packages d ≡ Err r) → IfNotMemory r (links_in packages d ≡ Err r)
      unfolding links_in
      no_root r h = if_not_memory r (λ (q : root_in packages d ≡ Err r). rw (were, were_members, q) refl) h

      module _ (root : Option Text) (was_root : root_in packages d ≡ Ok root) where
        pub no_leads : (r : Refusal) → IfNotMemory r (all_leads resolved.nodes packages ≡ Err r) → IfNotMemory r (links_in packages d ≡ Err r)
        unfolding links_in
        no_leads r h = if_not_memory r (λ (q : all_leads resolved.nodes packages ≡ Err r). rw (were, were_members, was_root, q) refl) h

        pub links_are : (leads : ById (List (Option Text))) → all_leads resolved.nodes packages ≡ Ok leads → links_in packages d ≡ Ok (record { members = resolved.members; default_members = members; root = root; leads = leads })
        unfolding links_in
        links_are leads q = rw (were, were_members, was_root, q) refl
