-- The edges, offers and steps of a graph, and their names.
use Rattle.std.proofs.Common.{◌≡◌, ◌∙◌, ◌<◌, ◌+◌, ◌++◌, ◌∷◌, [], ap, refl, sym, inl, inr, ℕ, Bool, true, false, List, Option, Some, None, length, map, take, get_or, arith}
use Rattle.std.specs.Prelude.{IsTrue, All, slice_get, if◌then◌else◌}
use Rattle.std.specs.Option.{is_some, option_map, option_map_or}
use Rattle.std.proofs.lemmas.Bool.{cases_lt}
use Rattle.std.proofs.lemmas.List.{get_or_past, map-append, take_more}
use Rattle.std.proofs.lemmas.List.Elements.{All-push}
use Rattle.std.proofs.lemmas.Option.{slice_get-map, slice_get-get_or}
use Rattle.digraphs.specs.Bits.{has}
use Rattle.guppy_packages.specs.Rows.{Text}
use Rattle.guppy_packages.specs.declared.direction.DependencyDirection.{DependencyDirection}
use Rattle.guppy_packages.specs.declared.direction.DependencyDirection.TheVariants.{Forward}
use Rattle.feature_labels.specs.Names.{LabelName}
use Rattle.feature_labels.specs.declared.link_declarations.LinkDeclarations.{LinkDeclarations}
use Rattle.feature_core.specs.Built.{Built, IsBuilt}
use Rattle.feature_links.specs.Facts.{EdgeFacts, link_at}
use Rattle.feature_links.specs.Links.{LinkFacts}
use Rattle.feature_core.specs.Nodes.{nodes}
use Rattle.feature_core.specs.Offers.{content_of, IsOffer}
use Rattle.feature_core.specs.Ways.{way}
use Rattle.walk_engine.specs.declared.walks.Half.{Half}
use Rattle.walk_engine.specs.declared.walks.Step.{Step}
use Rattle.walk_engine.specs.declared.walks.StepReason.{StepReason}
use Rattle.walk_engine.specs.declared.walks.StepReason.TheVariants as number
use Rattle.walk_engine.specs.Explanations.{IsReason, IsExplanation, nodes_of, refused_of}
use Rattle.walk_engine.specs.Walks.{Way, Call, IsWay, IsLegal, EndsAreNodes}
use Rattle.feature_graph.specs.LinkValues.{facts_of}
use Rattle.feature_graph.specs.Told.{ReasonName, ends_told, offer_told, reason_told, step_told, link, edge}
use Rattle.feature_graph.specs.Values.{Graph}
use Rattle.feature_graph.specs.Visits.{offered}
use Rattle.feature_graph.specs.Explained.{IsBacked}
use Rattle.feature_graph.specs.inner.Listings.{AreOffered}
use Rattle.feature_graph.proofs.Offered.{OffersAreLinks, link_ends}
use Rattle.feature_graph.proofs.OptionLemmas.{there_some, some_there, bound_is, bound, mapped_is, mapped}

abbrev pub Name : Type 0
Name = Text × LabelName

-- the two ends of an edge, from the entry at its number
module _ (g : Graph) where
  abbrev ends_at : Option (ℕ × ℕ × EdgeFacts) → Option (Name × Name)
  ends_at o = option_map_or (λ from. option_map (λ to. (from, to)) (option_map_or (λ x. slice_get (nodes g.tables) x.1) o None)) (option_map_or (λ x. slice_get (nodes g.tables) x.0) o None) None

  pub record EndsAt (e : ℕ) (from to : Name) : Type 0 where
    pub edge : ℕ × ℕ × EdgeFacts
    pub is_edge : slice_get g.built.edges e ≡ Some edge
    pub from_is : slice_get (nodes g.tables) edge.0 ≡ Some from
    pub to_is : slice_get (nodes g.tables) edge.1 ≡ Some to

  pub ends_are : (e : ℕ) (from to : Name) → EndsAt e from to → ends_told g e ≡ Some (from, to)
  ends_are e from to at =
      ap ends_at at.is_edge
      ∙ bound (λ f. option_map (λ t. (f, t)) (slice_get (nodes g.tables) at.edge.1)) (slice_get (nodes g.tables) at.edge.0) from (from, to) at.from_is
      (mapped (λ (t : Name). (from, t)) (slice_get (nodes g.tables) at.edge.1) to at.to_is)

  ends_of : (e : ℕ) (o : Option (ℕ × ℕ × EdgeFacts)) (from to : Name) → slice_get g.built.edges e ≡ o → ends_at o ≡ Some (from, to) → EndsAt e from to
  ends_of e None from to is h = absurd (cc)
  ends_of e (Some x) from to is h =
      let first = bound_is (λ f. option_map (λ t. (f, t)) (slice_get (nodes g.tables) x.1)) (slice_get (nodes g.tables) x.0) (from, to) h in
      let second = mapped_is (λ (t : Name). (first.0, t)) (slice_get (nodes g.tables) x.1) (from, to) first.2 in
      record { edge = x; is_edge = is; from_is = first.1 ∙ ap (λ (p : Name × Name). Some p.0) second.2; to_is = second.1 ∙ ap (λ (p : Name × Name). Some p.1) second.2 }

  pub ends_there : (e : ℕ) (from to : Name) → ends_told g e ≡ Some (from, to) → EndsAt e from to
  ends_there e from to h = ends_of e (slice_get g.built.edges e) from to refl h

  -- the names of an offer
  pub record OfferAt (e : ℕ) (h : Half) (from to : Name) (declarations : LinkDeclarations) : Type 0 where
    pub ends : EndsAt e from to
    pub facts : LinkFacts
    pub is_facts : facts_of (offered g e h) ≡ Some facts
    pub over : facts.declarations ≡ declarations

  pub offer_is : (e : ℕ) (h : Half) (from to : Name) (declarations : LinkDeclarations) → OfferAt e h from to declarations → offer_told g (e, h) ≡ Some (from, to, declarations)
  offer_is e h from to declarations at =
      bound (λ ends. option_map (λ facts. (ends.0, ends.1, facts.declarations)) (facts_of (offered g e h))) (ends_told g e) (from, to) (from, to, declarations) (ends_are e from to at.ends)
      (mapped (λ (facts : LinkFacts). (from, to, facts.declarations)) (facts_of (offered g e h)) at.facts at.is_facts ∙ ap (λ (d : LinkDeclarations). Some (from, to, d)) at.over)

  pub offer_there : (e : ℕ) (h : Half) (from to : Name) (declarations : LinkDeclarations) → offer_told g (e, h) ≡ Some (from, to, declarations) → OfferAt e h from to declarations
  offer_there e h from to declarations is =
      let first = bound_is (λ ends. option_map (λ facts. (ends.0, ends.1, facts.declarations)) (facts_of (offered g e h))) (ends_told g e) (from, to, declarations) is in
      let second = mapped_is (λ (facts : LinkFacts). (first.0.0, first.0.1, facts.declarations)) (facts_of (offered g e h)) (from, to, declarations) first.2 in
      record {
        ends = ends_there e from to (first.1 ∙ ap (λ (p : Name × Name × LinkDeclarations). Some (p.0, p.1)) second.2);
        facts = second.0;
        is_facts = second.1;
        over = ap (λ (p : Name × Name × LinkDeclarations). p.2) second.2;
      }

  -- the names of a step
  pub step_is : (step : Step) (name : Name) (why : ReasonName) → slice_get (nodes g.tables) step.node ≡ Some name → reason_told g step.reason ≡ Some why → step_told g step ≡ Some (name, why)
  step_is step name why at is =
      bound (λ n. option_map (λ w. (n, w)) (reason_told g step.reason)) (slice_get (nodes g.tables) step.node) name (name, why) at
      (mapped (λ (w : ReasonName). (name, w)) (reason_told g step.reason) why is)

  pub step_there : (step : Step) (told : Name × ReasonName) → step_told g step ≡ Some told → (slice_get (nodes g.tables) step.node ≡ Some told.0) × (reason_told g step.reason ≡ Some told.1)
  step_there step told is =
      let first = bound_is (λ n. option_map (λ w. (n, w)) (reason_told g step.reason)) (slice_get (nodes g.tables) step.node) told is in
      let second = mapped_is (λ (w : ReasonName). (first.0, w)) (reason_told g step.reason) told first.2 in
      (first.1 ∙ ap (λ (p : Name × ReasonName). Some p.0) second.2, second.1 ∙ ap (λ (p : Name × ReasonName). Some p.1) second.2)

-- a list of names with one more
pub told_more : {X T N : Type 0} (tell : X → Option N) (name : T → N) (xs : List X) (told : List T) (i : ℕ) (d : X) (t : T) → i < length xs → map tell (take i xs) ≡ map Some (map name told) → tell (get_or xs i d) ≡ Some (name t)
    → map tell (take (i + 1) xs) ≡ map Some (map name (told ++ t ∷ []))
told_more tell name xs told i d t within before is =
    ap (map tell) (take_more xs i d within)
    ∙ map-append tell (take i xs) (get_or xs i d ∷ [])
    ∙ ap (λ l. l ++ tell (get_or xs i d) ∷ []) before
    ∙ ap (λ o. map Some (map name told) ++ o ∷ []) is
    ∙ sym (map-append Some (map name told) (name t ∷ []))
    ∙ ap (map Some) (sym (map-append name told (t ∷ [])))

pub element_at : {X : Type 0} (xs : List X) (i : ℕ) → i < length xs → (x : X) × (slice_get xs i ≡ Some x)
element_at [] i within = absurd (omega arith)
element_at (x ∷ xs) i within = (get_or (x ∷ xs) i x, slice_get-get_or (x ∷ xs) i x within)

has_below : (set : List Bool) (n : ℕ) → IsTrue (has set n) → n < length set
has_below set n h = elim (cases_lt n (length set)) [ inl below ↦ below | inr past ↦ (let none : has set n ≡ false = get_or_past set n false past in absurd (cc)) ]

-- the edge of a way
pub way_edge : (d : DependencyDirection) (b : Built) (e : ℕ) (w : Way) → IsWay (content_of d b) e w → (x : ℕ × ℕ × EdgeFacts) × (slice_get b.edges e ≡ Some x) × (way d b.weak x ≡ w)
way_edge d b e w is = mapped_is (way d b.weak) (slice_get b.edges e) w (sym (slice_get-map (way d b.weak) b.edges e) ∙ is)

-- the steps of an explanation have names
module _ (g : Graph) (built : IsBuilt g.tables g.built) (links : OffersAreLinks g.tables) (count : length g.built.packages ≡ length (nodes g.tables)) (ends : (d : DependencyDirection) → EndsAreNodes (content_of d g.built)) where
  ends_named : (e : ℕ) (x : ℕ × ℕ × EdgeFacts) → slice_get g.built.edges e ≡ Some x → (from : Name) × (to : Name) × EndsAt g e from to
  ends_named e x is =
      let both = link_ends g.built (ends Forward) e x is in
      let first = element_at (nodes g.tables) x.0 (omega (arith, count, both.0)) in
      let second = element_at (nodes g.tables) x.1 (omega (arith, count, both.1)) in
      (first.0, second.0, record { edge = x; is_edge = is; from_is = first.1; to_is = second.1 })

  edge_is_told : (e : ℕ) (x : ℕ × ℕ × EdgeFacts) → slice_get g.built.edges e ≡ Some x → IsTrue (is_some (reason_told g (number.Edge e)))
  edge_is_told e x is =
      let at = ends_named e x is in
      some_there (reason_told g (number.Edge e)) (edge at.0 at.1) (mapped (λ (p : Name × Name). edge p.0 p.1) (ends_told g e) (at.0, at.1) (ends_are g e at.0 at.1 at.2))

  pub offer_is_told : (d : DependencyDirection) (e : ℕ) (h : Half) → IsOffer (content_of d g.built) e h → IsTrue (is_some (offer_told g (e, h)))
  offer_is_told d e h offer =
      let link = links g.built d e h built offer in
      let l = link.0 in
      let at = ends_named e link.1.edge link.1.is_edge in
      let facts : facts_of (offered g e h) ≡ Some l = ap {B = Option LinkFacts} (λ o. option_map_or (λ x. link_at x.2 h) o None) link.1.is_edge ∙ link.1.is_link in
      some_there (offer_told g (e, h)) (at.0, at.1, l.declarations) (offer_is g e h at.0 at.1 l.declarations (record { ends = at.2; facts = l; is_facts = facts; over = refl }))

  reason_is_told : (d : DependencyDirection) (I : ℕ → Bool) (A : ℕ → Half → Bool) (before : List ℕ) (n : ℕ) (reason : StepReason) → ((k : ℕ) → IsTrue (I k) → k < length (nodes g.tables)) → IsReason (content_of d g.built) I A before n reason
      → (n < length (nodes g.tables)) × IsTrue (is_some (reason_told g reason))
  reason_is_told d I A before n number.Initial below is = (below n is, refl)
  reason_is_told d I A before n (number.Edge e) below (w, is, ask, far, start) =
      let x = way_edge d g.built e w is in
      let end : w.far < length g.built.packages = (ends d e w is).1 in
      (omega (arith, far, count, end), edge_is_told e x.0 x.1)
  reason_is_told d I A before n (number.Offer e h) below (w, is, half, a, far, start, gate) =
      let end : w.far < length g.built.packages = (ends d e w is).1 in
      let offer = there_some (offer_told g (e, h)) (offer_is_told d e h (record { way = w; is_way = is; half = half })) in
      (omega (arith, far, count, end), some_there (reason_told g (number.Offer e h)) (link offer.0.0 offer.0.1 offer.0.2) (mapped (λ (o : Name × Name × LinkDeclarations). link o.0 o.1 o.2) (offer_told g (e, h)) offer.0 offer.1))

  step_is_told : (step : Step) → step.node < length (nodes g.tables) → IsTrue (is_some (reason_told g step.reason)) → IsTrue (is_some (step_told g step))
  step_is_told step within told =
      let name = element_at (nodes g.tables) step.node within in
      let why = there_some (reason_told g step.reason) told in
      some_there (step_told g step) (name.0, why.0) (step_is g step name.0 why.0 name.1 why.1)

  pub explained_told : (d : DependencyDirection) (initials : List Bool) (A : ℕ → Half → Bool) (steps : List Step) → length initials ≡ length (nodes g.tables) → IsExplanation (content_of d g.built) (has initials) A steps → All (λ step. IsTrue (is_some (step_told g step))) steps
  explained_told d initials A steps long explained k default within =
      let step = get_or steps k default in
      let reason = reason_is_told d (has initials) A (take k (nodes_of steps)) step.node step.reason (λ n h. omega (arith, long, has_below initials n h)) (explained.reasons k step (slice_get-get_or steps k default within)) in
      step_is_told step reason.0 reason.1

  pub backed_told : (d : DependencyDirection) (steps : List Step) → IsBacked g d steps → All (λ step. IsTrue (is_some (step_told g step))) steps
  backed_told d steps (initials, A, long, explained) = explained_told d initials A steps long explained

  -- the refused offers of a legal run have names
  pub refused_told : (d : DependencyDirection) (I : ℕ → Bool) (run : List Call) → IsLegal (content_of d g.built) I run → AreOffered g (refused_of run)
  refused_told d I [] legal = λ k default within. absurd (omega arith)
  refused_told d I (call ∷ before) (due, legal) = refused_by call.answer (refused_told d I before legal)
    where
      refused_by : (answer : Bool) → AreOffered g (refused_of before) → AreOffered g (if answer then refused_of before else refused_of before ++ (call.edge, call.half) ∷ [])
      refused_by true rest = rest
      refused_by false rest = All-push (λ offer. IsTrue (is_some (offer_told g offer))) (refused_of before) (call.edge, call.half) rest (offer_is_told d call.edge call.half (record { way = due.way; is_way = due.is_way; half = due.half }))
