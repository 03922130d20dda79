-- A visit stays within each set of entries that no link leaves.
use Rattle.std.proofs.Common.{◌≡◌, ℕ, List, Bool, true, false, Option, None, Some, refl, ap, sym, ◌∙◌, subst}
use Rattle.std.specs.Prelude.{◌==◌, Contains, IsTrue, slice_get}
use Rattle.std.specs.Option.{option_map_or}
use Rattle.std.proofs.Math.Logic.{∥∥₁_elim}
use Rattle.std.proofs.Props.{props}
use Rattle.std.proofs.lemmas.Bool.{eqb-true}
use Rattle.digraphs.specs.Bits.{has}
use Rattle.guppy_packages.specs.Tables.{AreTables, LinkTable, Tables}
use Rattle.guppy_packages.specs.declared.direction.DependencyDirection.TheVariants.{Forward}
use Rattle.feature_labels.specs.Names.{LabelName}
use Rattle.feature_labels.specs.Orders.{label_eq}
use Rattle.walk_engine.specs.Laws.{every}
use Rattle.walk_engine.specs.Walks.{IsClosed, IsWay, Way}
use Rattle.feature_core.specs.Built.{Built, IsBuilt}
use Rattle.feature_core.specs.Candidates.{Candidate, Edge, to_base, to_feature, to_dependency, over_strong, over_weak, with_dependency, with_feature, of_required, of_optional}
use Rattle.feature_core.specs.Nodes.{NodeAt, node_places}
use Rattle.feature_core.specs.Offers.{content_of}
use Rattle.feature_core.specs.Pairs.{HasCandidate}
use Rattle.feature_links.specs.Facts.{EdgeFacts}
use Rattle.feature_core.proofs.AddsLemmas.{element_at_place}
use Rattle.feature_core.proofs.LabelLemmas.{position_there}
use Rattle.feature_core.proofs.OfferLemmas.{way_edge}
use Rattle.feature_core.proofs.PushLemmas.{into_map}
use Rattle.laws.proofs.BuildExists.{built_exists}
use Rattle.plan_starts.specs.step_visits.Visits.{IsReached, IsVisit, Visit, is_node, is_place, is_start, node_at, reaches}
use Rattle.laws.proofs.Members.{both_true, member_any}

-- a test that isn't refuted passes
pub stable : (b : Bool) → ¬ ¬ (b ≡ true) → b ≡ true
stable true h = refl
stable false h = absurd (h (λ e. cc))

module _ (t : Tables) (Q : ℕ → Bool) where
  -- whether a node is one of an entry in the set
  abbrev pub in_set : ℕ → Bool
  in_set n = option_map_or (λ x. Q x.0) (slice_get (node_places t) n) false

  at_place : (n p : ℕ) (label : LabelName) → NodeAt t n p label → in_set n ≡ Q p
  at_place n p label h = ap (λ o. option_map_or (λ x. Q x.0) o false) h

  pub at_found : (n k : ℕ) (label : LabelName) → node_at t k label ≡ Some n → in_set n ≡ Q k
  at_found n k label h =
      let q = position_there (is_place (k, label)) n (node_places t) h in
      let number : k ≡ q.element.0 = eqb-true k q.element.0 (both_true (k == q.element.0) (label_eq label q.element.1) q.passes).0 in
      ap (λ o. option_map_or (λ x. Q x.0) o false) q.there ∙ ap Q (sym number)

  module _ (links : (k : ℕ) (l : LinkTable) → slice_get t.links k ≡ Some l → IsTrue (Q l.from) → IsTrue (Q l.to)) where
    -- within one entry
    beside : (u w p : ℕ) (a b : LabelName) → NodeAt t u p a → NodeAt t w p b → IsTrue (in_set u) → IsTrue (in_set w)
    beside u w p a b from to h = at_place w p b to ∙ sym (at_place u p a from) ∙ h

    -- over a link
    across : (u w k : ℕ) (l : LinkTable) (a b : LabelName) → slice_get t.links k ≡ Some l → NodeAt t u l.from a → NodeAt t w l.to b → IsTrue (in_set u) → IsTrue (in_set w)
    across u w k l a b is from to h = at_place w l.to b to ∙ links k l is (sym (at_place u l.from a from) ∙ h)

    candidate_stays : (u w : ℕ) (e : Edge) → Candidate t u w e → IsTrue (in_set u) → IsTrue (in_set w)
    candidate_stays u w e (to_base p l from differ to is) h = beside u w p _ _ from to h
    candidate_stays u w e (to_feature p f g item differ from to is) h = beside u w p _ _ from to h
    candidate_stays u w e (to_dependency p f d item from to is) h = beside u w p _ _ from to h
    candidate_stays u w e (over_strong k link weak leads strong is) h = across u w k link _ _ leads.is_link leads.from_node leads.to_node h
    candidate_stays u w e (over_weak k link leads has is) h = across u w k link _ _ leads.is_link leads.from_node leads.to_node h
    candidate_stays u w e (with_dependency p f d g item from to is) h = beside u w p _ _ from to h
    candidate_stays u w e (with_feature p n f d g item from between differ to is) h = beside u w p _ _ from to h
    candidate_stays u w e (of_required s) h = across u w s.k s.link _ _ s.is_link s.from_node s.to_node h
    candidate_stays u w e (of_optional s) h = across u w s.k s.link _ _ s.is_link s.from_node s.to_node h

    module _ (b : Built) (is : IsBuilt t b) where
      pair_stays : (u w : ℕ) → HasCandidate t u w → IsTrue (in_set u) → IsTrue (in_set w)
      pair_stays u w has h =
          let there : IsProp (IsTrue (in_set w)) = hlevel props in
          ∥∥₁_elim has there (λ c. candidate_stays u w c.0 c.1 h)

      way_stays : (e : ℕ) (w : Way) → IsWay (content_of Forward b) e w → IsTrue (in_set w.start) → IsTrue (in_set w.far)
      way_stays e w at h =
          let x = way_edge b Forward e w at in
          let start : x.0.0 ≡ w.start = ap (λ (z : Way). z.start) x.2 in
          let far : x.0.1 ≡ w.far = ap (λ (z : Way). z.far) x.2 in
          let pair = (is.pairs.exact x.0.0 x.0.1).0 (into_map (λ (y : ℕ × ℕ × EdgeFacts). (y.0, y.1)) b.edges x.0 (element_at_place b.edges e x.0 x.1)) in
          subst (λ z. IsTrue (in_set z)) far (pair_stays x.0.0 x.0.1 pair (subst (λ z. IsTrue (in_set z)) (sym start) h))

      module _ (starts : List (ℕ × LabelName)) (begins : (s : ℕ × LabelName) → Contains starts s → IsTrue (Q s.0)) where
        start_in : (n : ℕ) → IsTrue (is_start t starts n) → IsTrue (in_set n)
        start_in n h =
            let m = member_any (λ s. is_node (node_at t s.0 s.1) n) starts h in
            go m.element (begins m.element m.member) (node_at t m.element.0 m.element.1) refl m.passes
          where
            go : (s : ℕ × LabelName) → IsTrue (Q s.0) → (o : Option ℕ) → node_at t s.0 s.1 ≡ o → is_node o n ≡ true → IsTrue (in_set n)
            go s q None e i = absurd (cc)
            go s q (Some k) e i = at_found n s.0 s.1 (e ∙ ap Some (eqb-true k n i)) ∙ q

        closed : IsClosed (content_of Forward b) (is_start t starts) every (λ n. IsTrue (in_set n))
        closed = record {
          initial = start_in;
          unasked = λ e w at none h. way_stays e w at h;
          offered = λ e half w at has accepted h gate. way_stays e w at h;
        }

        pub reached_in : (n : ℕ) → IsReached t starts n → IsTrue (in_set n)
        reached_in n r = r b is in_set closed

    pub visit_in : (starts : List (ℕ × LabelName)) (v : Visit) → AreTables t → IsVisit t starts v → ((s : ℕ × LabelName) → Contains starts s → IsTrue (Q s.0)) → (k : ℕ) (label : LabelName) → IsTrue (reaches v k label) → IsTrue (Q k)
    visit_in starts v tables is begins k label h = go (node_at t k label) refl (subst (λ (z : Tables). option_map_or (has v.members) (node_at z k label) false ≡ true) is.tables h)
      where
        go : (o : Option ℕ) → node_at t k label ≡ o → option_map_or (has v.members) o false ≡ true → IsTrue (Q k)
        go None e i = absurd (cc)
        go (Some n) e i =
            let r : IsReached t starts n = (is.members n).0 i in
            sym (at_found n k label e) ∙ stable (in_set n) (λ none. built_exists t tables (λ b. none (reached_in b.0 b.1 starts begins n r)))
