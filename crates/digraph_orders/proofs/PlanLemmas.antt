-- The meaning of a plan's counts.
use Rattle.std.proofs.Common.{◌≡◌, ◌≢◌, ℕ, ◌<◌, inl, inr, Bool, true, false, ◌&&◌, eqb, not, List, length, get_or, map, refl, ap, sym, ◌∙◌, arith}
use Rattle.std.proofs.lemmas.Bool.{cases_Bool, eq-eqb, not-true}
use Rattle.std.proofs.lemmas.Bool.Decides.{eqb_tells}
use Rattle.std.proofs.lemmas.List.{get_or-map}
use Rattle.std.proofs.lemmas.List.Elements.{Contains-get_or}
use Rattle.digraphs.specs.declared.digraph.Edge.{Edge}
use Rattle.digraphs.specs.Graph.{Graph, IsDigraph, sources, targets}
use Rattle.digraphs.specs.Paths.{HasEdge, HasFirmEdge}
use Rattle.digraphs.proofs.FaultLemmas.{nodes_of_edge}
use Rattle.digraph_orders.specs.inner.Ranks.{IsRanking}
use Rattle.digraph_orders.specs.inner.Counts.{IsTally, enters, holds}
use Rattle.digraph_orders.specs.inner.Heads.{AreMarks, AreHolds, IsEntered}
use Rattle.digraph_orders.specs.inner.Plans.{is_fresh}
use Rattle.digraph_orders.proofs.CountLemmas.{count_none, count_some, count_zero}
use Rattle.digraph_orders.proofs.Available.{rank_same, firm_is_edge}

both_of : (x y : Bool) → (x && y) ≡ true → (x ≡ true) × (y ≡ true)
both_of true true e = (refl, refl)
both_of true false e = absurd (let c : true ≡ false = sym e in cc)
both_of false y e = absurd (let c : true ≡ false = sym e in cc)

pub both_true : {x y : Bool} → (x && y) ≡ true → (x ≡ true) × (y ≡ true)
both_true {x = x} {y = y} e = both_of x y e

pub not_true : {x : Bool} → not x ≡ true → x ≡ false
not_true {x = x} e = not-true x e

pub eqb_true : (a b : ℕ) → eqb a b ≡ true → a ≡ b
eqb_true a b e = elim (eqb_tells a b) [ inl t ↦ t.1 | inr f ↦ absurd (let c : true ≡ false = sym e ∙ f.0 in cc) ]

pub eqb_false : (a b : ℕ) → a ≢ b → eqb a b ≡ false
eqb_false a b ne = elim (eqb_tells a b) [ inl t ↦ absurd (ne t.1) | inr f ↦ f.0 ]

pub eqb_apart : (a b : ℕ) → eqb a b ≡ false → a ≢ b
eqb_apart a b e is = let t = eq-eqb a b is in let c : true ≡ false = sym t ∙ e in cc

from_at : List Edge → ℕ → ℕ
from_at es i = get_or (sources es) i 0

to_at : List Edge → ℕ → ℕ
to_at es i = get_or (targets es) i 0

firm_at : List Edge → ℕ → Bool
firm_at es i = get_or (map (λ (e : Edge). e.non_dev) es) i false

no_edge : Edge
no_edge = record { from = 0; to = 0; non_dev = true }

-- Edge `i` leads from `a` to `b`, by the lists of sources and targets.
pub record IsEdgeAt (es : List Edge) (a b i : ℕ) : Type 0 where
  pub within : i < length es
  pub from : get_or (sources es) i 0 ≡ a
  pub to : get_or (targets es) i 0 ≡ b

pub edge_number : (es : List Edge) (a b : ℕ) → HasEdge es a b → (i : ℕ) × IsEdgeAt es a b i
edge_number es a b e =
    let i = e.listed.0 in (
      i,
      record {
        within = e.listed.1;
        from = get_or-map (λ (d : Edge). d.from) es i e.edge 0 e.listed.1 ∙ ap (λ (d : Edge). d.from) e.listed.2 ∙ e.from;
        to = get_or-map (λ (d : Edge). d.to) es i e.edge 0 e.listed.1 ∙ ap (λ (d : Edge). d.to) e.listed.2 ∙ e.to;
      },
    )

pub firm_number : (es : List Edge) (a b : ℕ) → HasFirmEdge es a b → (i : ℕ) × IsEdgeAt es a b i × (get_or (map (λ (d : Edge). d.non_dev) es) i false ≡ true)
firm_number es a b e =
    let i = e.listed.0 in (
      i,
      record {
        within = e.listed.1;
        from = get_or-map (λ (d : Edge). d.from) es i e.edge 0 e.listed.1 ∙ ap (λ (d : Edge). d.from) e.listed.2 ∙ e.from;
        to = get_or-map (λ (d : Edge). d.to) es i e.edge 0 e.listed.1 ∙ ap (λ (d : Edge). d.to) e.listed.2 ∙ e.to;
      },
      get_or-map (λ (d : Edge). d.non_dev) es i e.edge false e.listed.1 ∙ ap (λ (d : Edge). d.non_dev) e.listed.2 ∙ e.firm,
    )

pub edge_of_number : (es : List Edge) (i : ℕ) → i < length es → HasEdge es (get_or (sources es) i 0) (get_or (targets es) i 0)
edge_of_number es i h =
    record {
      edge = get_or es i no_edge;
      listed = Contains-get_or es i no_edge h;
      from = sym (get_or-map (λ (e : Edge). e.from) es i no_edge 0 h);
      to = sym (get_or-map (λ (e : Edge). e.to) es i no_edge 0 h);
    }

pub firm_of_number : (es : List Edge) (i : ℕ) → i < length es → get_or (map (λ (d : Edge). d.non_dev) es) i false ≡ true → HasFirmEdge es (get_or (sources es) i 0) (get_or (targets es) i 0)
firm_of_number es i h firm =
    record {
      edge = get_or es i no_edge;
      listed = Contains-get_or es i no_edge h;
      from = sym (get_or-map (λ (e : Edge). e.from) es i no_edge 0 h);
      to = sym (get_or-map (λ (e : Edge). e.to) es i no_edge 0 h);
      firm = sym (get_or-map (λ (e : Edge). e.non_dev) es i no_edge false h) ∙ firm;
    }

module _ (g : Graph) (ok : IsDigraph g) (ranks : List ℕ) (r : IsRanking g ranks) (listed : List ℕ) (done : List Bool) (m : AreMarks listed done) where
  -- The counts of holds decide which nodes are held.
  pub holds_of : (held : List ℕ) → length held ≡ g.nodes → IsTally held (length g.edges) (is_fresh g.edges done) (holds g.edges ranks) → AreHolds g listed held
  holds_of held long t =
      record {
        some = λ v lv h z.
            let f = firm_number g.edges h.by v h.edge in
            let i = f.0 in
            let off = count_none (λ i. is_fresh g.edges done i && holds g.edges ranks v i) (length g.edges) (sym (t v (omega (arith, long))) ∙ z) i f.1.within in
            let from_fresh : get_or done h.by false ≡ false = elim (cases_Bool (get_or done h.by false)) [ inl d ↦ absurd (h.fresh (m.listed_one h.by d)) | inr d ↦ d ] in
            let e1 : get_or done (get_or (sources g.edges) i 0) false ≡ false = rw f.1.from from_fresh in
            let e2 : eqb (get_or (targets g.edges) i 0) v ≡ true = eq-eqb _ _ f.1.to in
            let e3 : eqb (get_or ranks (get_or (sources g.edges) i 0) 0) (get_or ranks v 0) ≡ true = eq-eqb _ _ (ap (λ x. get_or ranks x 0) f.1.from ∙ rank_same g ok ranks r h.same) in
            let e4 : eqb (get_or (sources g.edges) i 0) v ≡ false = eqb_false _ _ (λ e. h.other (sym f.1.from ∙ e)) in
            let bad : true ≡ false = rw (e1, f.2, e2, e3, e4) at off in
            cc;
        holds = λ v lv z.
            let f = count_some (λ i. is_fresh g.edges done i && holds g.edges ranks v i) (length g.edges) (λ e. z (t v (omega (arith, long)) ∙ e)) in
            let i = f.0 in
            let a = get_or (sources g.edges) i 0 in
            let p = both_true f.2 in
            let q = both_true p.1 in
            let q0 = both_true q.0 in
            let q1 = both_true q.1 in
            let to : get_or (targets g.edges) i 0 ≡ v = eqb_true _ _ q0.1 in
            let firm : HasFirmEdge g.edges a v = rw to at (firm_of_number g.edges i f.1 q0.0) in
            let ends = nodes_of_edge g ok (firm_is_edge firm) in
            record {
              by = a;
              other = eqb_apart a v (not_true q1.1);
              fresh = λ c. let d = m.marked a c in let n = not_true p.0 in let bad : true ≡ false = sym d ∙ n in cc;
              same = r.same a v ends.0 lv (eqb_true _ _ q1.0);
              edge = firm;
            };
      }

module _ (g : Graph) (ranks : List ℕ) (done : List Bool) (outside : List ℕ) (t : IsTally outside (length g.edges) (is_fresh g.edges done) (enters g.edges ranks)) where
  -- If a component's count is 0, each edge into it starts at a node that is done.
  pub entered_of : (c : ℕ) → c < length outside → get_or outside c 0 ≡ 0 → IsEntered g ranks done c
  entered_of c h z a b edge eb na =
      let f = edge_number g.edges a b edge in
      let i = f.0 in
      let off = count_none (λ i. is_fresh g.edges done i && enters g.edges ranks c i) (length g.edges) (sym (t c h) ∙ z) i f.1.within in
      elim (cases_Bool (get_or done a false)) [
        | inl d ↦ d
        | inr d ↦
            absurd (
            let e1 : get_or done (get_or (sources g.edges) i 0) false ≡ false = rw f.1.from d in
            let e2 : eqb (get_or ranks (get_or (targets g.edges) i 0) 0) c ≡ true = eq-eqb _ _ (ap (λ x. get_or ranks x 0) f.1.to ∙ eb) in
            let e3 : eqb (get_or ranks (get_or (sources g.edges) i 0) 0) c ≡ false = eqb_false _ _ (λ e. na (ap (λ x. get_or ranks x 0) (sym f.1.from) ∙ e)) in
            let bad : true ≡ false = rw (e1, e2, e3) at off in
            cc)
      ]

  pub zero_of : (c : ℕ) → c < length outside → IsEntered g ranks done c → get_or outside c 0 ≡ 0
  zero_of c h entered =
      t c h ∙ count_zero (λ i. is_fresh g.edges done i && enters g.edges ranks c i) (length g.edges)
      (λ i l.
      elim (cases_Bool (is_fresh g.edges done i && enters g.edges ranks c i)) [
        | inr off ↦ off
        | inl on ↦
            absurd (
            let p = both_true on in
            let q = both_true p.1 in
            let d = entered _ _ (edge_of_number g.edges i l) (eqb_true _ _ q.0) (eqb_apart _ _ (not_true q.1)) in
            let n = not_true p.0 in
            let bad : true ≡ false = sym d ∙ n in
            cc)
      ])
