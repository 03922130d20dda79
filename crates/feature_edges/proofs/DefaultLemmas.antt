-- The node of a package's feature `default`, as a number that is 0 if there is none.
use Rattle.std.proofs.Common.{◌≡◌, ℕ, ◌<◌, List, length, Option, Some, sym, ap, subst, arith}
use Rattle.std.specs.Prelude.{◌↔◌, codes, slice_index}
use Rattle.guppy_packages.specs.Rows.{Text}
use Rattle.guppy_packages.specs.Tables.{Tables}
use Rattle.feature_labels.specs.Names.LabelName.{named}
use Rattle.feature_edges.specs.Nodes.{NodeAt}
use Rattle.feature_edges.specs.DefaultNodes.{AreDefaultNodes, IsDefaultNode}
use Rattle.feature_edges.proofs.LabelLemmas.{named_back}
use Rattle.feature_edges.proofs.NodeLabels.{element_within, index_there}
use Rattle.feature_edges.proofs.Places.{got_same, node_back}

-- node 0 is a base
named_positive : (t : Tables) (n p : ℕ) (name : Text) → NodeAt t n p (named name) → 0 < n
named_positive t n p name h =
    let s = node_back t n p (named name) h in
    omega (arith, s.is, (named_back s.row s.place name s.is_place).1)

pub default_some : (t : Tables) (p d : ℕ) → ((n : ℕ) → (◌≡◌ {A = Option ℕ} (Some d) (Some n)) ↔ NodeAt t n p (named (codes "default"))) → IsDefaultNode t p d
default_some t p d h n = (
  (λ at. (sym (got_same d n ((h n).1 at)), named_positive t n p (codes "default") at)),
  (λ w. (h n).0 (ap Some (sym w.0))),
)

pub default_of_list : (t : Tables) (nodes : List ℕ) (p : ℕ) → AreDefaultNodes t nodes → p < length nodes → IsDefaultNode t p (slice_index nodes p)
default_of_list t nodes p are l =
    let e = element_within nodes p l in
    subst (IsDefaultNode t p) (sym (index_there nodes p e.0 e.1)) (are.each p e.0 e.1)
