-- The ends of a candidate are nodes.
use Rattle.std.proofs.Common.{◌≡◌, ℕ, ◌<◌, length, arith}
use Rattle.std.proofs.lemmas.List.{length-map}
use Rattle.std.proofs.lemmas.Option.{slice_get_within}
use Rattle.guppy_packages.specs.Tables.{Tables}
use Rattle.feature_labels.specs.Names.{LabelName}
use Rattle.feature_labels.specs.Names.LabelName.{base, named, optional}
use Rattle.feature_edges.specs.Candidates.{Edge, Candidate, to_base, to_feature, to_dependency, over_strong, over_weak, with_dependency, with_feature, of_required, of_optional}
use Rattle.feature_edges.specs.Nodes.{NodeAt, node_places, node_packages}

-- a label of a package is a node below their number
pub at_node : (t : Tables) (n p : ℕ) (label : LabelName) → NodeAt t n p label → n < length (node_packages t)
at_node t n p label h =
    let below : n < length (node_places t) = slice_get_within (node_places t) n (p, label) h in
    let long : length (node_packages t) ≡ length (node_places t) = length-map (node_places t) (λ x. x.0) in
    omega (arith, below, long)

abbrev pub AreWithin : Tables → ℕ → ℕ → Type 0
AreWithin t u w = (u < length (node_packages t)) × (w < length (node_packages t))

pub candidate_within : (t : Tables) (u w : ℕ) (e : Edge) → Candidate t u w e → AreWithin t u w
candidate_within t u w e (to_base p label from differ to is) = (at_node t u p label from, at_node t w p base to)
candidate_within t u w e (to_feature p f g item differ from to is) = (at_node t u p (named f) from, at_node t w p (named g) to)
candidate_within t u w e (to_dependency p f d item from to is) = (at_node t u p (named f) from, at_node t w p (optional d) to)
candidate_within t u w e (over_strong k link weak leads strong is) = (at_node t u link.from (named leads.f) leads.from_node, at_node t w link.to (named leads.g) leads.to_node)
candidate_within t u w e (over_weak k link leads has is) = (at_node t u link.from (named leads.f) leads.from_node, at_node t w link.to (named leads.g) leads.to_node)
candidate_within t u w e (with_dependency p f d g item from to is) = (at_node t u p (named f) from, at_node t w p (optional d) to)
candidate_within t u w e (with_feature p n f d g item from beside differ to is) = (at_node t u p (named f) from, at_node t w p (named d) to)
candidate_within t u w e (of_required s) = (at_node t u s.link.from base s.from_node, at_node t w s.link.to s.asked s.to_node)
candidate_within t u w e (of_optional s) = (at_node t u s.link.from (optional s.link.name) s.from_node, at_node t w s.link.to s.asked s.to_node)
