-- Relations between two features by their nodes, and the components that have a cycle.
use Rattle.std.proofs.Common.{◌≡◌, ℕ, zero, suc, ◌<◌, Bool, true, false, cond, List, [], ◌∷◌, length, filter, Option, Some, None, refl, sym, subst, arith}
use Rattle.std.specs.Prelude.{◌↔◌, All, IsTrue, IfSome, IfNone}
use Rattle.std.specs.List.{AllByRecursion}
use Rattle.std.specs.Option.{is_some}
use Rattle.std.proofs.lemmas.List.Elements.{All-from_recursion, All-from_get_or, recursion_from_All}
use Rattle.digraphs.specs.declared.digraph.Edge.{Edge}
use Rattle.digraphs.specs.Graph.{IsEdgeAt, source_of, target_of}
use Rattle.digraphs.specs.Paths.{HasEdge}
use Rattle.digraph_orders.specs.Sequences.{Sequence, IsSequence}
use Rattle.guppy_packages.specs.Rows.{Text}
use Rattle.guppy_packages.specs.Tables.{Tables}
use Rattle.feature_labels.specs.Names.{LabelName}
use Rattle.feature_graph.specs.Tied.{AreNodesOf, TellsTied}

pub tells_tied : (Tied : ℕ → ℕ → Type 0) (t : Tables) (a b : Text × LabelName) (m n : ℕ) (answer : Bool) → AreNodesOf t a b m n → IsTrue answer ↔ Tied m n → TellsTied Tied t a b answer
tells_tied Tied t a b m n answer nodes tied = record {
  first = (m, (nodes.first m).1 refl);
  second = (n, (nodes.second n).1 refl);
  tells = λ j k at other.
      let first : j ≡ m = (nodes.first j).0 at in
      let second : k ≡ n = (nodes.second k).0 other in
      subst (λ z. IsTrue answer ↔ Tied z k) (sym first) (subst (λ z. IsTrue answer ↔ Tied m z) (sym second) tied);
}

edge_there : (es : List Edge) (k u w : ℕ) → k < length es → source_of es k ≡ u → target_of es k ≡ w → HasEdge es u w
edge_there [] k u w within from to = absurd (omega arith)
edge_there (e ∷ es) zero u w within from to = record { edge = e; listed = (0, omega arith, refl); from = from; to = to }
edge_there (e ∷ es) (suc k) u w within from to =
    let rest = edge_there es k u w (omega arith) from to in
    let below = rest.listed.1 in
    record { edge = rest.edge; listed = (suc rest.listed.0, omega arith, rest.listed.2); from = rest.from; to = rest.to }

-- an edge was found if and only if there is one
pub edge_told : (es : List Edge) (u w : ℕ) (found : Option ℕ) (answer : Bool) → answer ≡ is_some found → IfSome found (IsEdgeAt es u w) → IfNone found (¬ HasEdge es u w) → IsTrue answer ↔ HasEdge es u w
edge_told es u w None answer is some none = (
  (λ h. absurd (clash answer h is)),
  (λ h. absurd (none h)),
)
  where
    clash : (b : Bool) → b ≡ true → b ≡ false → ⊥
    clash b h i = cc
edge_told es u w (Some k) answer is at none = (
  (λ h. edge_there es k u w at.within at.from at.to),
  (λ h. is),
)

filter_all : {X : Type 0} (P : X → Type 0) (test : X → Bool) (xs : List X) → AllByRecursion P xs → AllByRecursion P (filter test xs)
filter_all P test [] h = tt
filter_all P test (x ∷ xs) h =
    let rest = filter_all P test xs h.1 in
    elim (test x) as (λ b. AllByRecursion P (cond b (x ∷ filter test xs) (filter test xs))) [ true ↦ (h.0, rest) | false ↦ rest ]

-- the nodes in an order are below the length of its list
pub listed_below : (o : Sequence) (test : ℕ → Bool) → IsSequence o → All (λ v. v < length o.list) (filter test o.list)
listed_below o test order =
    let P : ℕ → Type 0 = λ v. v < length o.list in
    All-from_recursion P (filter test o.list) (filter_all P test o.list (recursion_from_All P o.list (All-from_get_or P o.list 0 order.each.below)))
