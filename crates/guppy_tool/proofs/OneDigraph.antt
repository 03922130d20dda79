-- Two builds of one package graph have one digraph.
use Rattle.std.proofs.Common.{◌≡◌, ℕ, suc, Bool, List, [], ◌∷◌, length, map, Some, refl, ap, sym, ◌∙◌, subst, not}
use Rattle.std.specs.Prelude.{slice_get}
use Rattle.std.proofs.Math.Logic.{∥∥₁_elim}
use Rattle.std.proofs.Props.{props}
use Rattle.digraphs.specs.declared.digraph.Edge.{Edge as Between}
use Rattle.digraphs.specs.Graph.{Graph}
use Rattle.guppy_packages.specs.Tables.{Tables}
use Rattle.guppy_packages.specs.declared.direction.DependencyDirection.TheVariants.{Forward}
use Rattle.feature_core.specs.Built.{Built, digraph_of, end_of}
use Rattle.feature_core.specs.Candidates.{Edge, feature_to_base, named_feature, dep_colon, slash_full, slash_optional, slash_weak, section, IsEdge}
use Rattle.feature_links.specs.Facts.{EdgeFacts, is_dev_edge}
use Rattle.feature_core.specs.Edges.{EdgeSays, facts_of}
use Rattle.feature_core.specs.Offers.{content_of}
use Rattle.feature_core.specs.Ways.{way}

-- an edge is dev-only or not, independently of where the weak links lie
dev_alike : (t : Tables) (v w : List ℕ) (e : Edge) → is_dev_edge (facts_of t v e) ≡ is_dev_edge (facts_of t w e)
dev_alike t v w feature_to_base = refl
dev_alike t v w named_feature = refl
dev_alike t v w (dep_colon l) = refl
dev_alike t v w (slash_full l) = refl
dev_alike t v w (slash_optional l) = refl
dev_alike t v w (slash_weak k l) = refl
dev_alike t v w (section l) = refl

-- two edges of one pair of nodes are both dev-only or both not
said_alike : (t : Tables) (v w : List ℕ) (x y : ℕ × ℕ × EdgeFacts) → EdgeSays t v x.0 x.1 x.2 → ((e : Edge) → IsEdge t y.0 y.1 e → y.2 ≡ facts_of t w e) → x.0 ≡ y.0 → x.1 ≡ y.1 → is_dev_edge x.2 ≡ is_dev_edge y.2
said_alike t v w x y says same from to =
    let one : IsProp (is_dev_edge x.2 ≡ is_dev_edge y.2) = hlevel props in
    ∥∥₁_elim says one (λ s.
    let edge : IsEdge t y.0 y.1 s.0 = subst (λ z. IsEdge t z y.1 s.0) from (subst (λ z. IsEdge t x.0 z s.0) to s.1) in
    ap is_dev_edge s.2 ∙ dev_alike t v w s.0 ∙ sym (ap is_dev_edge (same s.0 edge)))

abbrev between : ℕ → ℕ → Bool → Between
between from to non_dev = record { from = from; to = to; non_dev = non_dev }

end_alike : (x y : ℕ × ℕ × EdgeFacts) → x.0 ≡ y.0 → x.1 ≡ y.1 → is_dev_edge x.2 ≡ is_dev_edge y.2 → end_of x ≡ end_of y
end_alike x y from to dev =
    ap (λ z. between z x.1 (not (is_dev_edge x.2))) from
    ∙ ap (λ z. between y.0 z (not (is_dev_edge x.2))) to
    ∙ ap (λ z. between y.0 y.1 (not z)) dev

-- lists with the same values of `f` and `g` have the same values of `h`, if each pair of equal values has
pub map_alike : {X Y Z : Type 0} (f g : X → Y) (h : X → Z) (xs ys : List X) → map f xs ≡ map g ys → ((k : ℕ) (x y : X) → slice_get xs k ≡ Some x → slice_get ys k ≡ Some y → f x ≡ g y → h x ≡ h y) → map h xs ≡ map h ys
map_alike f g h [] [] e same = refl
map_alike f g h [] (y ∷ ys) e same = cc
map_alike f g h (x ∷ xs) [] e same = cc
map_alike f g h (x ∷ xs) (y ∷ ys) e same =
    let first : f x ≡ g y = cc in
    let rest : map f xs ≡ map g ys = cc in
    ap (λ z. z ∷ map h xs) (same 0 x y refl refl first) ∙ ap (λ z. h y ∷ z) (map_alike f g h xs ys rest (λ k. same (suc k)))

abbrev graph_of_parts : ℕ → List Between → Graph
graph_of_parts nodes edges = record { nodes = nodes; edges = edges }

-- two builds whose edges have the facts of the tables have one digraph
pub one_digraph : (t : Tables) (a b : Built)
    → ((k : ℕ) (x : ℕ × ℕ × EdgeFacts) → slice_get a.edges k ≡ Some x → EdgeSays t (map (λ z. z.0) a.weak) x.0 x.1 x.2)
    → ((k : ℕ) (x : ℕ × ℕ × EdgeFacts) (e : Edge) → slice_get b.edges k ≡ Some x → IsEdge t x.0 x.1 e → x.2 ≡ facts_of t (map (λ z. z.0) b.weak) e)
    → content_of Forward a ≡ content_of Forward b → digraph_of a ≡ digraph_of b
one_digraph t a b says same content =
    let edges : map end_of a.edges ≡ map end_of b.edges = map_alike (way Forward a.weak) (way Forward b.weak) end_of a.edges b.edges (ap (λ c. c.ways) content) (λ k x y at there e.
    let from : x.0 ≡ y.0 = ap (λ z. z.start) e in
    let to : x.1 ≡ y.1 = ap (λ z. z.far) e in
    end_alike x y from to (said_alike t (map (λ z. z.0) a.weak) (map (λ z. z.0) b.weak) x y (says k x at) (λ s. same k y s there) from to)) in
    ap (λ z. graph_of_parts z (map end_of a.edges)) (ap (λ c. c.nodes) content) ∙ ap (graph_of_parts (length b.packages)) edges
