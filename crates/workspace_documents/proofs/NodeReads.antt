-- The node of a package.
use Rattle.std.proofs.Common.{◌≡◌, ◌∙◌, sym, ap, refl, List, Bor}
use Rattle.std.specs.Prelude.{Option, Some, None, option_map}
use Rattle.std.specs.Map.{lookup}
use Rattle.std.specs.Option.{unwrap_or, option_copied}
use Rattle.std.specs.Ordering.{nat_cmp, is_eq}
use Rattle.std.specs.Cmp.Lexicographic.{slice_cmp}
use Rattle.cargo_json.specs.Faults.{Text}
use Rattle.workspace_documents.specs.declared.nodes.Node.{Node}
use Rattle.workspace_documents.specs.Nodes.{NodeText, no_node, node_of}
use Rattle.workspace_documents.specs.Views.{node_view, entries_view}
use Rattle.workspace_documents.proofs.Entries.{at_id-entries}

seen : (found : Option (Bor Node)) (absent : Bor Node) → node_view (unwrap_or found absent).now ≡ unwrap_or (option_map node_view (option_copied found)) (node_view absent.now)
seen (Some node) absent = refl
seen None absent = refl

-- the node of a package, where that of an absent one is blank
pub node_found : (nodes : List (Bor Text × Node)) (id : Text) (found : Option (Bor Node)) (absent node : Bor Node) → node ≡ unwrap_or found absent → node_view absent.now ≡ no_node → option_copied found ≡ lookup (λ k. is_eq (slice_cmp nat_cmp id k.now)) nodes → node_view node.now ≡ node_of id (entries_view node_view nodes)
node_found nodes id found absent node is blank value =
    let at = at_id-entries node_view id nodes in
    ap (λ (n : Bor Node). node_view n.now) is ∙ seen found absent ∙ ap (λ o. unwrap_or (option_map node_view o) (node_view absent.now)) value ∙ ap (unwrap_or (option_map node_view (lookup (λ k. is_eq (slice_cmp nat_cmp id k.now)) nodes))) blank ∙ ap (λ (o : Option NodeText). unwrap_or o no_node) (sym at)
