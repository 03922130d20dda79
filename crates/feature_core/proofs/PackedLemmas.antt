-- The edges of a feature graph as ways.
use Rattle.std.proofs.Common.{◌≡◌, ℕ, zero, suc, ◌+◌, ◌<◌, cond, ◌&&◌, inl, inr, List, [], ◌∷◌, ◌++◌, Option, Some, None, length, get_or, refl, sym, ◌∙◌, ap, subst, arith, add-one}
use Rattle.std.specs.Prelude.{IsFalse, ◌==◌, slice_get}
use Rattle.std.specs.Option.{option_map_or}
use Rattle.std.proofs.lemmas.List.{length-map}
use Rattle.std.proofs.lemmas.Option.{slice_get_within, slice_get-get_or}
use Rattle.digraphs.specs.declared.digraph.Edge.{Edge}
use Rattle.digraphs.specs.Graph.{Graph}
use Rattle.feature_edges.specs.guppy_packages.declared.direction.DependencyDirection.TheVariants.{Forward, Reverse}
use Rattle.feature_edges.specs.guppy_packages.Tables.{Tables}
use Rattle.feature_edges.specs.feature_labels.Names.{LabelName}
use Rattle.feature_edges.specs.feature_labels.Names.LabelName.{optional}
use Rattle.feature_edges.specs.Nodes.{node_packages, node_places}
use Rattle.feature_edges.specs.feature_links.Facts.{EdgeFacts}
use Rattle.feature_edges.specs.Edges.{AreBuilt}
use Rattle.feature_edges.specs.feature_links.Facts.EdgeFacts.{base_edge, feature_edge, colon_edge, strong_edge, weak_edge, section_edge}
use Rattle.walk_engine.specs.Walks.{numbers_where, releasing, is_gated}
use Rattle.feature_core.specs.Built.{built_edges}
use Rattle.feature_core.specs.Ways.{ways, content, asked, gate_of, gate_at, GatesAreNodes}
use Rattle.feature_core.specs.inner.Releases.{AreTied, released_by, releases_from}
use Rattle.feature_core.proofs.Answered.{decide}
use Rattle.feature_edges.proofs.Places.{got_same}
use Rattle.feature_core.proofs.Released.{Rises, same_rising, in_released, released_in, released_rises}
use Rattle.feature_edges.proofs.NodeLabels.{element_within}
use Rattle.feature_core.proofs.ReleaseTables.{exact_releases}

-- an edge with its value
pub built_edge_at : (k : ℕ) (es : List Edge) (fs : List EdgeFacts) (e : Edge) (f : EdgeFacts) → slice_get es k ≡ Some e → slice_get fs k ≡ Some f → slice_get (built_edges es fs) k ≡ Some (e.from, e.to, f)
built_edge_at k [] fs e f p q = absurd (cc)
built_edge_at k (x ∷ es) [] e f p q = absurd (cc)
built_edge_at zero (x ∷ es) (y ∷ fs) e f p q = let a : x ≡ e = cc in let b : y ≡ f = cc in ap (λ (z : Edge). Some (z.from, z.to, y)) a ∙ ap (λ z. Some (e.from, e.to, z)) b
built_edge_at (suc k) (x ∷ es) (y ∷ fs) e f p q = built_edge_at k es fs e f p q

some_ap : {X : Type 0} (f : X → ℕ) (a b : X) → ◌≡◌ {A = Option X} (Some a) (Some b) → f a ≡ f b
some_ap f a b h = ap f (got_same a b h)

pub edge_of_facts : (k : ℕ) (es : List Edge) (fs : List EdgeFacts) (x : ℕ × ℕ × EdgeFacts) → slice_get (built_edges es fs) k ≡ Some x → (e : Edge) × (slice_get es k ≡ Some e) × (e.from ≡ x.0) × (e.to ≡ x.1)
edge_of_facts k [] fs x p = absurd (cc)
edge_of_facts k (e ∷ es) [] x p = absurd (cc)
edge_of_facts zero (e ∷ es) (f ∷ fs) x p = (e, refl, some_ap (λ z. z.0) (e.from, e.to, f) x p, some_ap (λ z. z.1) (e.from, e.to, f) x p)
edge_of_facts (suc k) (e ∷ es) (f ∷ fs) x p = edge_of_facts k es fs x p

pub value_of_facts : (k : ℕ) (es : List Edge) (fs : List EdgeFacts) (x : ℕ × ℕ × EdgeFacts) → slice_get (built_edges es fs) k ≡ Some x → slice_get fs k ≡ Some x.2
value_of_facts k [] fs x p = absurd (cc)
value_of_facts k (e ∷ es) [] x p = absurd (cc)
value_of_facts zero (e ∷ es) (f ∷ fs) x p = ap (λ (y : ℕ × ℕ × EdgeFacts). Some y.2) (got_same (e.from, e.to, f) x p)
value_of_facts (suc k) (e ∷ es) (f ∷ fs) x p = value_of_facts k es fs x p

-- in reverse no half waits
none_asked : (f : EdgeFacts) → IsFalse (is_gated (asked Reverse f))
none_asked base_edge = refl
none_asked feature_edge = refl
none_asked (colon_edge l) = refl
none_asked (strong_edge l) = refl
none_asked (weak_edge l half) = refl
none_asked (section_edge l) = refl

pub none_waits : (weak : List (ℕ × ℕ)) (n first : ℕ) (es : List Edge) (fs : List EdgeFacts) → numbers_where (λ w. is_gated w.ask && (w.gate == n)) first (ways Reverse (built_edges es fs) weak) ≡ []
none_waits weak n first [] fs = refl
none_waits weak n first (e ∷ es) [] = refl
none_waits weak n first (e ∷ es) (f ∷ fs) = rw (none_asked f) (none_waits weak n (suc first) es fs)

-- forward, an edge waits if it has a gate
waits_put : (weak : List (ℕ × ℕ)) (n first : ℕ) (f : EdgeFacts) (xs : List ℕ) (rest : List (ℕ × ℕ)) → xs ≡ released_by n rest → cond (is_gated (asked Forward f) && (option_map_or (λ gate. gate) (gate_of weak f) 0 == n)) (first ∷ xs) xs ≡ released_by n (option_map_or (λ gate. (gate, first) ∷ []) (gate_of weak f) [] ++ rest)
waits_put weak n first base_edge xs rest e = e
waits_put weak n first feature_edge xs rest e = e
waits_put weak n first (colon_edge l) xs rest e = e
waits_put weak n first (strong_edge l) xs rest e = e
waits_put weak n first (weak_edge l half) xs rest e = elim (decide (gate_at weak half.index == n)) [ inl q ↦ rw q (ap (λ (ys : List ℕ). first ∷ ys) e) | inr q ↦ rw q e ]
waits_put weak n first (section_edge l) xs rest e = e

waits_released : (weak : List (ℕ × ℕ)) (n first : ℕ) (es : List Edge) (fs : List EdgeFacts) → length fs ≡ length es → numbers_where (λ w. is_gated w.ask && (w.gate == n)) first (ways Forward (built_edges es fs) weak) ≡ released_by n (releases_from weak first fs)
waits_released weak n first [] [] l = refl
waits_released weak n first [] (f ∷ fs) l = absurd (omega arith)
waits_released weak n first (e ∷ es) [] l = absurd (omega arith)
waits_released weak n first (e ∷ es) (f ∷ fs) l =
    waits_put weak n first f _ (releases_from weak (first + 1) fs)
    (waits_released weak n (suc first) es fs (omega arith) ∙ ap (λ (k : ℕ). released_by n (releases_from weak k fs)) (sym (add-one first)))

lower : (n : ℕ) (xs : List ℕ) → Rises (suc n) xs → Rises n xs
lower n [] h = tt
lower n (x ∷ xs) (h, hs) = (omega arith, hs)

put_rises : (weak : List (ℕ × ℕ)) (gate n : ℕ) (o : Option ℕ) (rest : List (ℕ × ℕ)) → Rises (suc n) (released_by gate rest) → Rises n (released_by gate (option_map_or (λ g. (g, n) ∷ []) o [] ++ rest))
put_rises weak gate n None rest h = lower n (released_by gate rest) h
put_rises weak gate n (Some g) rest h = elim (decide (g == gate)) [ inl q ↦ rw q (omega arith, h) | inr q ↦ rw q (lower n (released_by gate rest) h) ]

made_rises : (weak : List (ℕ × ℕ)) (gate n : ℕ) (fs : List EdgeFacts) → Rises n (released_by gate (releases_from weak n fs))
made_rises weak gate n [] = tt
made_rises weak gate n (f ∷ fs) = put_rises weak gate n (gate_of weak f) (releases_from weak (n + 1) fs) (subst (λ (k : ℕ). Rises k (released_by gate (releases_from weak (n + 1) fs))) (add-one n) (made_rises weak gate (n + 1) fs))

-- the edges that wait for a node are those with this gate in the table
pub releases_same : (nodes gate : ℕ) (g : Graph) (fs : List EdgeFacts) (weak released : List (ℕ × ℕ)) → AreTied g fs weak released → released_by gate released ≡ releasing (content Forward nodes (built_edges g.edges fs) weak) gate
releases_same nodes gate g fs weak released tied =
    let table = tied.releases in
    let made : List (ℕ × ℕ) = releases_from weak 0 fs in
    same_rising 0 0 (released_by gate released) (released_by gate made)
    (released_rises gate 0 released table.ascends (λ k d l q. omega arith))
    (made_rises weak gate 0 fs)
    (λ e t. released_in gate e made ((exact_releases weak fs gate e).1 ((table.exact gate e).0 (in_released gate e released t))))
    (λ e t. released_in gate e released ((table.exact gate e).1 ((exact_releases weak fs gate e).0 (in_released gate e made t))))
    ∙ sym (waits_released weak gate 0 g.edges fs tied.each)

gate_below : (weak : List (ℕ × ℕ)) (nodes index : ℕ) → 0 < nodes → GatesAreNodes nodes weak → gate_at weak index < nodes
gate_below [] nodes index some h = some
gate_below (x ∷ weak) nodes zero some h = h 0 x (omega arith)
gate_below (x ∷ weak) nodes (suc index) some h = gate_below weak nodes index some (λ k d l. h (suc k) d (omega arith))

pub gate_within : (weak : List (ℕ × ℕ)) (nodes : ℕ) (f : EdgeFacts) → 0 < nodes → GatesAreNodes nodes weak → option_map_or (λ gate. gate) (gate_of weak f) 0 < nodes
gate_within weak nodes base_edge some h = some
gate_within weak nodes feature_edge some h = some
gate_within weak nodes (colon_edge l) some h = some
gate_within weak nodes (strong_edge l) some h = some
gate_within weak nodes (weak_edge l half) some h = gate_below weak nodes half.index some h
gate_within weak nodes (section_edge l) some h = some

pub length-built_edges : (es : List Edge) (fs : List EdgeFacts) → length fs ≡ length es → length (built_edges es fs) ≡ length es
length-built_edges [] fs l = refl
length-built_edges (e ∷ es) [] l = absurd (omega arith)
length-built_edges (e ∷ es) (f ∷ fs) l = let r : length (built_edges es fs) ≡ length es = length-built_edges es fs (omega arith) in omega arith

-- the gates of the built weak links are nodes
pub built_gates : (t : Tables) (edges : List (ℕ × ℕ × EdgeFacts)) (weak : List (ℕ × ℕ)) (nodes : ℕ) → AreBuilt t edges weak → nodes ≡ length (node_packages t) → GatesAreNodes nodes weak
built_gates t edges weak nodes built n i d l =
    let x : ℕ × ℕ = get_or weak i d in
    let gate = built.gates i x.0 x.1 (slice_get-get_or weak i d l) in
    let link = element_within t.links x.0 gate.within in
    let within : x.1 < length (node_places t) = slice_get_within (node_places t) x.1 (link.0.from, optional link.0.name) (gate.node link.0 link.1) in
    omega (arith, length-map (node_places t) (λ (p : ℕ × LabelName). p.0))
