-- Named steps and offers, and their numbers.
use Rattle.std.proofs.Common.{◌≡◌, ◌∙◌, ◌+◌, ◌++◌, ◌∷◌, ◌⊎◌, [], ap, refl, sym, subst, inl, inr, ℕ, zero, suc, Bool, true, false, ◌||◌, ◌&&◌, List, Option, Some, None, map, take, add-one, arith}
use Rattle.std.specs.Prelude.{◌↔◌, ◌==◌, IsTrue, IfSome, IfNone, MatchOption, slice_get}
use Rattle.std.specs.Option.{option_map, option_map_or}
use Rattle.std.proofs.lemmas.Bool.{eqb-true, eq-eqb}
use Rattle.std.proofs.lemmas.Option.{none-some, same_Some, slice_get-map, slice_get_within, get_or_from_slice_get, some_pair_parts}
use Rattle.digraphs.specs.Graph.{IsEdgeAt}
use Rattle.digraphs.specs.Paths.{HasEdge}
use Rattle.guppy_packages.specs.declared.direction.DependencyDirection.{DependencyDirection}
use Rattle.guppy_packages.specs.declared.direction.DependencyDirection.TheVariants.{Forward}
use Rattle.feature_labels.specs.declared.link_declarations.LinkDeclarations.{LinkDeclarations}
use Rattle.feature_core.specs.Built.{Built, NodeNamed, end_of}
use Rattle.feature_links.specs.Facts.{EdgeFacts, link_at}
use Rattle.feature_links.specs.Facts.EdgeFacts.{base_edge, feature_edge, colon_edge, strong_edge, weak_edge, section_edge}
use Rattle.feature_links.specs.Links.{LinkFacts}
use Rattle.feature_core.specs.Nodes.{nodes}
use Rattle.feature_core.specs.Offers.{content_of, IsOffer, HaveOneName}
use Rattle.feature_core.specs.Ways.{asked, way}
use Rattle.walk_engine.specs.declared.walks.Half.{Half}
use Rattle.walk_engine.specs.declared.walks.Half.TheVariants.{Full, Required, Optional}
use Rattle.walk_engine.specs.declared.walks.Step.{Step}
use Rattle.walk_engine.specs.Walks.{has_half, is_half}
use Rattle.walk_checks.specs.Exact.{is_refused}
use Rattle.feature_graph.specs.LinkValues.{facts_of}
use Rattle.feature_graph.specs.Told.{ReasonName, ends_told, offer_told, step_told}
use Rattle.feature_graph.specs.Explained.{AreRefused, AreTold, IsListed}
use Rattle.feature_graph.specs.Values.{Graph}
use Rattle.feature_graph.specs.Visits.{offered}
use Rattle.feature_graph.specs.inner.Numbered.{AreNumbered, IsNumberedOffer, IsNumberedStep, IsOver, IsPossible}
use Rattle.feature_graph.proofs.OptionLemmas.{mapped_is, mapped, one_some}
use Rattle.feature_graph.proofs.ToldLemmas.{Name, ends_are, ends_there, offer_is, offer_there, way_edge}

edge_at : (es : List (ℕ × ℕ × EdgeFacts)) (k u w : ℕ) → IsEdgeAt (map end_of es) u w k → (x : ℕ × ℕ × EdgeFacts) × (slice_get es k ≡ Some x) × (x.0 ≡ u) × (x.1 ≡ w)
edge_at [] k u w at = let within = at.within in absurd (omega arith)
edge_at (x ∷ es) zero u w at = (x, refl, at.from, at.to)
edge_at (x ∷ es) (suc k) u w at = let within = at.within in edge_at es k u w (record { within = omega arith; from = at.from; to = at.to })

edge_has : (es : List (ℕ × ℕ × EdgeFacts)) (k : ℕ) (x : ℕ × ℕ × EdgeFacts) → slice_get es k ≡ Some x → HasEdge (map end_of es) x.0 x.1
edge_has es k x is =
    let there = slice_get-map end_of es k ∙ ap (option_map end_of) is in
    record { edge = end_of x; listed = (k, slice_get_within (map end_of es) k (end_of x) there, get_or_from_slice_get (map end_of es) k (end_of x) (end_of x) there); from = refl; to = refl }

pub heads_same : {X : Type 0} (x y : X) (xs ys : List X) → ◌≡◌ {A = List X} (x ∷ xs) (y ∷ ys) → x ≡ y
heads_same x y xs ys h = cc

pub tails_same : {X : Type 0} (x y : X) (xs ys : List X) → ◌≡◌ {A = List X} (x ∷ xs) (y ∷ ys) → xs ≡ ys
tails_same x y xs ys h = cc

-- the offered halves of an edge are the same in both directions
half_either : (d : DependencyDirection) (f : EdgeFacts) (h : Half) → has_half (asked d f) h ≡ has_half (asked Forward f) h
half_either d base_edge h = refl
half_either d feature_edge h = refl
half_either d (colon_edge l) h = refl
half_either d (strong_edge l) h = refl
half_either d (weak_edge l w) Full = refl
half_either d (weak_edge l w) Required = refl
half_either d (weak_edge l w) Optional = refl
half_either d (section_edge l) h = refl

pub offer_forward : (d : DependencyDirection) (b : Built) (e : ℕ) (h : Half) → IsOffer (content_of d b) e h → IsOffer (content_of Forward b) e h
offer_forward d b e h offer =
    let x = way_edge d b e offer.way offer.is_way in
    let half : IsTrue (has_half (asked d x.0.2) h) = subst (λ w. IsTrue (has_half w.ask h)) (sym x.2) offer.half in
    record { way = way Forward b.weak x.0; is_way = slice_get-map (way Forward b.weak) b.edges e ∙ ap (option_map (way Forward b.weak)) x.1; half = sym (half_either d x.0.2 h) ∙ half }

module _ (g : Graph) where
  -- an offered half of an edge is an offer of the graph
  pub over_offer : (e : ℕ) (h : Half) (from to : Name) (declarations : LinkDeclarations) (x : ℕ × ℕ × EdgeFacts) → ends_told g e ≡ Some (from, to) → slice_get g.built.edges e ≡ Some x → IsOver x.2 declarations h → IsNumberedOffer g (from, to, declarations) e h
  over_offer e h from to declarations x ends is over =
      let facts = mapped_is (λ (l : LinkFacts). l.declarations) (link_at x.2 h) declarations over.over in
      let said : facts_of (offered g e h) ≡ Some facts.0 = ap {B = Option LinkFacts} (λ o. option_map_or (λ y. link_at y.2 h) o None) is ∙ facts.1 in
      record {
        offer = record { way = way Forward g.built.weak x; is_way = slice_get-map (way Forward g.built.weak) g.built.edges e ∙ ap (option_map (way Forward g.built.weak)) is; half = over.offered };
        told_so = offer_is g e h from to declarations (record { ends = ends_there g e from to ends; facts = facts.0; is_facts = said; over = facts.2 });
      }

  pub offer_over : (e : ℕ) (h : Half) (from to : Name) (declarations : LinkDeclarations) (x : ℕ × ℕ × EdgeFacts) → slice_get g.built.edges e ≡ Some x → IsNumberedOffer g (from, to, declarations) e h → IsOver x.2 declarations h
  offer_over e h from to declarations x is numbered =
      let at = offer_there g e h from to declarations numbered.told_so in
      let y = way_edge Forward g.built e numbered.offer.way numbered.offer.is_way in
      let same : y.0 ≡ x = one_some (slice_get g.built.edges e) y.0 x y.1 is in
      let half : IsTrue (has_half (asked Forward y.0.2) h) = subst (λ w. IsTrue (has_half w.ask h)) (sym y.2) numbered.offer.half in
      let said : link_at x.2 h ≡ Some at.facts = sym (ap {B = Option LinkFacts} (λ o. option_map_or (λ z. link_at z.2 h) o None) is) ∙ at.is_facts in
      record {
        offered = subst (λ z. IsTrue (has_half (asked Forward z.2) h)) same half;
        over = mapped (λ (l : LinkFacts). l.declarations) (link_at x.2 h) at.facts said ∙ ap (λ (d : LinkDeclarations). Some d) at.over;
      }

  pub offer_ends : (told : Name × Name × LinkDeclarations) (e : ℕ) (h : Half) → IsNumberedOffer g told e h → ends_told g e ≡ Some (told.0, told.1)
  offer_ends told e h numbered = let at = offer_there g e h told.0 told.1 told.2 numbered.told_so in ends_are g e told.0 told.1 at.ends

  module _ (once : (j k : ℕ) (x y : ℕ × ℕ × EdgeFacts) → slice_get g.built.edges j ≡ Some x → slice_get g.built.edges k ≡ Some y → x.0 ≡ y.0 → x.1 ≡ y.1 → j ≡ k) (one_node : (name : Name) (m n : ℕ) → NodeNamed g.tables m name → NodeNamed g.tables n name → m ≡ n) where
    -- the edge between two nodes is the edge with their names
    pub edge_tells : (u w : ℕ) (found : Option ℕ) (from to : Name) → NodeNamed g.tables u from → NodeNamed g.tables w to → IfSome found (IsEdgeAt (map end_of g.built.edges) u w) → IfNone found (¬ HasEdge (map end_of g.built.edges) u w)
        → (e : ℕ) → (found ≡ Some e) ↔ (ends_told g e ≡ Some (from, to))
    edge_tells u w None from to a b some none e = (
      (λ is. absurd (none-some e is)),
      (λ is.
          let at = ends_there g e from to is in
          let start : at.edge.0 ≡ u = one_node from at.edge.0 u at.from_is a in
          let end : at.edge.1 ≡ w = one_node to at.edge.1 w at.to_is b in
          absurd (none (subst (λ z. HasEdge (map end_of g.built.edges) z w) start (subst (λ z. HasEdge (map end_of g.built.edges) at.edge.0 z) end (edge_has g.built.edges e at.edge at.is_edge))))),
    )
    edge_tells u w (Some k) from to a b at none e =
        let here = edge_at g.built.edges k u w at in
        let told : ends_told g k ≡ Some (from, to) = ends_are g k from to (record { edge = here.0; is_edge = here.1; from_is = ap (slice_get (nodes g.tables)) here.2 ∙ a; to_is = ap (slice_get (nodes g.tables)) here.3 ∙ b }) in (
          (λ is. subst (λ z. ends_told g z ≡ Some (from, to)) (same_Some k e is) told),
          (λ is.
              let there = ends_there g e from to is in
              ap Some (once k e here.0 there.edge here.1 there.is_edge (here.2 ∙ one_node from u there.edge.0 a there.from_is) (here.3 ∙ one_node to w there.edge.1 b there.to_is))),
        )

  -- if the graph lacks one of two features, no edge has their names
  pub edge_from_none : (from to : Name) → ((n : ℕ) → (◌≡◌ {A = Option ℕ} None (Some n)) ↔ NodeNamed g.tables n from) → (e : ℕ) → (◌≡◌ {A = Option ℕ} None (Some e)) ↔ (ends_told g e ≡ Some (from, to))
  edge_from_none from to none e = ((λ is. absurd (none-some e is)), (λ is. let at = ends_there g e from to is in absurd (none-some at.edge.0 ((none at.edge.0).1 at.from_is))))

  pub edge_to_none : (from to : Name) → ((n : ℕ) → (◌≡◌ {A = Option ℕ} None (Some n)) ↔ NodeNamed g.tables n to) → (e : ℕ) → (◌≡◌ {A = Option ℕ} None (Some e)) ↔ (ends_told g e ≡ Some (from, to))
  edge_to_none from to none e = ((λ is. absurd (none-some e is)), (λ is. let at = ends_there g e from to is in absurd (none-some at.edge.1 ((none at.edge.1).1 at.to_is))))

  -- a list of named steps with one more
  pub numbered_push : (told : List (Name × ReasonName)) (steps : List Step) (t : Name × ReasonName) (step : Step) → AreNumbered g told steps → IsNumberedStep g t step → AreNumbered g (told ++ t ∷ []) (steps ++ step ∷ [])
  numbered_push [] [] t step h one = (one, tt)
  numbered_push [] (s ∷ steps) t step h one = absurd h
  numbered_push (x ∷ told) [] t step h one = absurd h
  numbered_push (x ∷ told) (s ∷ steps) t step (first, rest) one = (first, numbered_push told steps t step rest one)

  pub numbered_last : (told : List (Name × ReasonName)) (t : Name × ReasonName) (numbers : List Step) → AreNumbered g (told ++ t ∷ []) numbers → (steps : List Step) × (step : Step) × (numbers ≡ steps ++ step ∷ []) × AreNumbered g told steps × IsNumberedStep g t step
  numbered_last [] t [] h = absurd h
  numbered_last [] t (s ∷ []) (one, rest) = ([], s, refl, tt, one)
  numbered_last [] t (s ∷ u ∷ numbers) (one, rest) = absurd rest
  numbered_last (x ∷ told) t [] h = absurd h
  numbered_last (x ∷ told) t (s ∷ numbers) (one, rest) =
      let more = numbered_last told t numbers rest in
      (s ∷ more.0, more.1, ap (λ (l : List Step). s ∷ l) more.2, (one, more.3), more.4)

  pub numbered_at : (told : List (Name × ReasonName)) (numbers : List Step) (k : ℕ) (t : Name × ReasonName) → AreNumbered g told numbers → slice_get told k ≡ Some t → (step : Step) × IsNumberedStep g t step
  numbered_at [] numbers k t h is = absurd (none-some t is)
  numbered_at (x ∷ told) [] k t h is = absurd h
  numbered_at (x ∷ told) (s ∷ numbers) zero t (one, rest) is = (s, subst (λ z. IsNumberedStep g z s) (same_Some x t is) one)
  numbered_at (x ∷ told) (s ∷ numbers) (suc k) t (one, rest) is = numbered_at told numbers k t rest is

  pub numbered_told : (told : List (Name × ReasonName)) (steps : List Step) → AreNumbered g told steps → AreTold g steps told
  numbered_told [] [] h = refl
  numbered_told [] (s ∷ steps) h = absurd h
  numbered_told (t ∷ told) [] h = absurd h
  numbered_told (t ∷ told) (s ∷ steps) (one, rest) = let more = numbered_told told steps rest in λ i. one.told_so i ∷ more i

  pub told_numbered : (told : List (Name × ReasonName)) (steps : List Step) → ((k : ℕ) (step : Step) → slice_get steps k ≡ Some step → IsPossible g step.reason) → AreTold g steps told → AreNumbered g told steps
  told_numbered [] [] possible is = tt
  told_numbered [] (s ∷ steps) possible is = absurd (cc)
  told_numbered (t ∷ told) [] possible is = absurd (cc)
  told_numbered (t ∷ told) (s ∷ steps) possible is = (record { possible = possible 0 s refl; told_so = heads_same (step_told g s) (Some t) (map (step_told g) steps) (map Some told) is }, told_numbered told steps (λ k step at. possible (suc k) step at) (tails_same (step_told g s) (Some t) (map (step_told g) steps) (map Some told) is))

  -- a list of entries with one more
  pub listed_more : (entries : List (Name × Name × LinkDeclarations)) (entry : Name × Name × LinkDeclarations) (e : ℕ) (h : Half) → IsListed g (entries ++ entry ∷ []) e h ↔ (IsListed g entries e h ⊎ (offer_told g (e, h) ≡ Some entry))
  listed_more entries entry e h = (to_either entries, of_either entries)
    where
      to_either : (xs : List (Name × Name × LinkDeclarations)) → IsListed g (xs ++ entry ∷ []) e h → IsListed g xs e h ⊎ (offer_told g (e, h) ≡ Some entry)
      to_either [] (zero, x, at, is) = inr (is ∙ sym at)
      to_either [] (suc k, x, at, is) = absurd (none-some x at)
      to_either (y ∷ xs) (zero, x, at, is) = inl (0, x, at, is)
      to_either (y ∷ xs) (suc k, x, at, is) = elim (to_either xs (k, x, at, is)) [ inl (j, z, there, told) ↦ inl (suc j, z, there, told) | inr told ↦ inr told ]

      of_either : (xs : List (Name × Name × LinkDeclarations)) → IsListed g xs e h ⊎ (offer_told g (e, h) ≡ Some entry) → IsListed g (xs ++ entry ∷ []) e h
      of_either [] (inl (k, x, at, is)) = absurd (none-some x at)
      of_either [] (inr is) = (0, entry, refl, is)
      of_either (y ∷ xs) (inl (zero, x, at, is)) = (0, x, at, is)
      of_either (y ∷ xs) (inl (suc k, x, at, is)) = let more = of_either xs (inl (k, x, at, is)) in (suc more.0, more.1, more.2, more.3)
      of_either (y ∷ xs) (inr is) = let more = of_either xs (inr is) in (suc more.0, more.1, more.2, more.3)

pub none_listed : (g : Graph) (e : ℕ) (h : Half) → IsListed g [] e h → ⊥
none_listed g e h (k, x, at, is) = none-some x at

pub false_true : false ≡ true → ⊥
false_true h = cc

-- a list of refused offers with one more
pub or_cases : (a b : Bool) → IsTrue (a || b) ↔ (IsTrue a ⊎ IsTrue b)
or_cases true b = ((λ h. inl refl), (λ h. refl))
or_cases false b = ((λ h. inr h), (λ h. elim h [ inl p ↦ absurd (false_true p) | inr q ↦ q ]))

or_right : (a : Bool) → (a || false) ≡ a
or_right true = refl
or_right false = refl

or_again : (a b c : Bool) → (a || (b || c)) ≡ ((a || b) || c)
or_again true b c = refl
or_again false b c = refl

and_both : (a b : Bool) → IsTrue (a && b) → IsTrue a × IsTrue b
and_both true b h = (refl, h)
and_both false b h = absurd (false_true h)

and_intro : (a b : Bool) → IsTrue a → IsTrue b → IsTrue (a && b)
and_intro true b h k = k
and_intro false b h k = absurd (false_true h)

half_same : (h k : Half) → IsTrue (is_half h k) → h ≡ k
half_same Full Full t = refl
half_same Full Required t = absurd (false_true t)
half_same Full Optional t = absurd (false_true t)
half_same Required Full t = absurd (false_true t)
half_same Required Required t = refl
half_same Required Optional t = absurd (false_true t)
half_same Optional Full t = absurd (false_true t)
half_same Optional Required t = absurd (false_true t)
half_same Optional Optional t = refl

half_itself : (h : Half) → IsTrue (is_half h h)
half_itself Full = refl
half_itself Required = refl
half_itself Optional = refl

refused_append : (xs : List (ℕ × Half)) (o : ℕ × Half) (e : ℕ) (h : Half) → is_refused (xs ++ o ∷ []) e h ≡ (is_refused xs e h || ((o.0 == e) && is_half o.1 h))
refused_append [] o e h = or_right ((o.0 == e) && is_half o.1 h)
refused_append (x ∷ xs) o e h = ap (λ b. ((x.0 == e) && is_half x.1 h) || b) (refused_append xs o e h) ∙ or_again ((x.0 == e) && is_half x.1 h) (is_refused xs e h) ((o.0 == e) && is_half o.1 h)

pub same_offer : (o : ℕ × Half) (e : ℕ) (h : Half) → IsTrue ((o.0 == e) && is_half o.1 h) ↔ ((o.0 ≡ e) × (o.1 ≡ h))
same_offer o e h = (
  (λ t. let both = and_both (o.0 == e) (is_half o.1 h) t in (eqb-true o.0 e both.0, half_same o.1 h both.1)),
  (λ same. subst (λ k. IsTrue ((o.0 == k) && is_half o.1 h)) same.0 (subst (λ k. IsTrue ((o.0 == o.0) && is_half o.1 k)) same.1 (and_intro (o.0 == o.0) (is_half o.1 o.1) (eq-eqb o.0 o.0 refl) (half_itself o.1)))),
)

pub refused_more : (xs : List (ℕ × Half)) (o : ℕ × Half) (e : ℕ) (h : Half) → IsTrue (is_refused (xs ++ o ∷ []) e h) ↔ (IsTrue (is_refused xs e h) ⊎ ((o.0 ≡ e) × (o.1 ≡ h)))
refused_more xs o e h = (
  (λ t. elim ((or_cases (is_refused xs e h) ((o.0 == e) && is_half o.1 h)).0 (sym (refused_append xs o e h) ∙ t)) [ inl before ↦ inl before | inr last ↦ inr ((same_offer o e h).0 last) ]),
  (λ either. refused_append xs o e h ∙ (or_cases (is_refused xs e h) ((o.0 == e) && is_half o.1 h)).1 (elim either [ inl before ↦ inl before | inr last ↦ inr ((same_offer o e h).1 last) ])),
)

-- the look-up of an offer, from the look-ups of its edge and of a half
module _ (g : Graph) where
  pub edge_named : (e : ℕ) (from to : Name) → ends_told g e ≡ Some (from, to) → (x : ℕ × ℕ × EdgeFacts) × (slice_get g.built.edges e ≡ Some x)
  edge_named e from to is = let at = ends_there g e from to is in (at.edge, at.is_edge)

  pub no_half : (result : Option (ℕ × Half)) (found : Option Half) (k : ℕ) (x : ℕ × ℕ × EdgeFacts) (told : Name × Name × LinkDeclarations) → result ≡ None → found ≡ None → slice_get g.built.edges k ≡ Some x
      → MatchOption found ((h : Half) → ¬ IsOver x.2 told.2 h) (IsOver x.2 told.2) → ((e : ℕ) → (◌≡◌ {A = Option ℕ} (Some k) (Some e)) ↔ (ends_told g e ≡ Some (told.0, told.1)))
      → (e : ℕ) (h : Half) → (result ≡ Some (e, h)) ↔ IsNumberedOffer g told e h
  no_half result found k x told none missing at over finds e h = (
    (λ is. absurd (none-some (e, h) (sym none ∙ is))),
    (λ numbered.
        let same : k ≡ e = same_Some k e ((finds e).1 (offer_ends g told e h numbered)) in
        let no : (j : Half) → ¬ IsOver x.2 told.2 j = subst (λ o. MatchOption o ((j : Half) → ¬ IsOver x.2 told.2 j) (IsOver x.2 told.2)) missing over in
        absurd (no h (offer_over g e h told.0 told.1 told.2 x (sym (ap (slice_get g.built.edges) same) ∙ at) numbered))),
  )

  pub found_offer : ((d : ℕ) (i : Half) (e : ℕ) (j : Half) → IsOffer (content_of Forward g.built) d i → IsOffer (content_of Forward g.built) e j → HaveOneName g.built d i e j → (d ≡ e) × (i ≡ j))
      → (k : ℕ) (half : Half) (x : ℕ × ℕ × EdgeFacts) (told : Name × Name × LinkDeclarations) → slice_get g.built.edges k ≡ Some x → IsOver x.2 told.2 half → ((e : ℕ) → (◌≡◌ {A = Option ℕ} (Some k) (Some e)) ↔ (ends_told g e ≡ Some (told.0, told.1)))
      → (e : ℕ) (h : Half) → (◌≡◌ {A = Option (ℕ × Half)} (Some (k, half)) (Some (e, h))) ↔ IsNumberedOffer g told e h
  found_offer names k half x told at over finds e h =
      let mine : IsNumberedOffer g told k half = over_offer g k half told.0 told.1 told.2 x ((finds k).0 refl) at over in (
        (λ is. let parts = some_pair_parts k e half h is in subst (λ j. IsNumberedOffer g told j h) parts.0 (subst (λ j. IsNumberedOffer g told k j) parts.1 mine)),
        (λ numbered.
            let same : k ≡ e = same_Some k e ((finds e).1 (offer_ends g told e h numbered)) in
            let here : slice_get g.built.edges e ≡ Some x = sym (ap (slice_get g.built.edges) same) ∙ at in
            let other = offer_over g e h told.0 told.1 told.2 x here numbered in
            let one = mapped_is (λ (l : LinkFacts). l.declarations) (link_at x.2 half) told.2 over.over in
            let two = mapped_is (λ (l : LinkFacts). l.declarations) (link_at x.2 h) told.2 other.over in
            let both = names k half e h mine.offer numbered.offer (record {
              one = x;
              is_one = at;
              other = x;
              is_other = here;
              from = refl;
              to = refl;
              link = one.0;
              is_link = one.1;
              other_link = two.0;
              is_other_link = two.1;
              declarations = one.2 ∙ sym two.2;
            }) in
            λ i. Some (both.0 i, both.1 i)),
      )

pub take_next : {X : Type 0} (xs : List X) (i : ℕ) (x : X) → slice_get xs i ≡ Some x → take (i + 1) xs ≡ take i xs ++ x ∷ []
take_next xs i x is = ap (λ k. take k xs) (add-one i) ∙ next xs i x is
  where
    next : {Y : Type 0} (ys : List Y) (k : ℕ) (y : Y) → slice_get ys k ≡ Some y → take (suc k) ys ≡ take k ys ++ y ∷ []
    next [] k y at = absurd (none-some y at)
    next (z ∷ ys) zero y at = ap (λ w. w ∷ []) (same_Some z y at)
    next (z ∷ ys) (suc k) y at = ap (λ l. z ∷ l) (next ys k y at)

-- the lists of the loops, with one more element
module _ (g : Graph) where
  pub numbered_more : (told : List (Name × ReasonName)) (steps more : List Step) (i : ℕ) (t : Name × ReasonName) (step : Step) → slice_get told i ≡ Some t → more ≡ steps ++ step ∷ [] → AreNumbered g (take i told) steps → IsNumberedStep g t step → AreNumbered g (take (i + 1) told) more
  numbered_more told steps more i t step at is h one =
      subst (λ l. AreNumbered g l more) (sym (take_next told i t at)) (subst (λ l. AreNumbered g (take i told ++ t ∷ []) l) (sym is) (numbered_push g (take i told) steps t step h one))

  pub only_more : (told : List (Name × ReasonName)) (steps more : List Step) (i : ℕ) (t : Name × ReasonName) (step : Step) → slice_get told i ≡ Some t → more ≡ steps ++ step ∷ [] → ((numbers : List Step) → AreNumbered g (take i told) numbers → numbers ≡ steps)
      → ((other : Step) → IsNumberedStep g t other → ◌≡◌ {A = Option Step} (Some step) (Some other)) → (numbers : List Step) → AreNumbered g (take (i + 1) told) numbers → numbers ≡ more
  only_more told steps more i t step at is only one numbers h =
      let cut = numbered_last g (take i told) t numbers (subst (λ l. AreNumbered g l numbers) (take_next told i t at) h) in
      cut.2 ∙ ap (λ l. l ++ cut.1 ∷ []) (only cut.0 cut.3) ∙ ap (λ s. steps ++ s ∷ []) (sym (same_Some step cut.1 (one cut.1 cut.4))) ∙ sym is

  pub refused_some : (entries : List (Name × Name × LinkDeclarations)) (i : ℕ) (t : Name × Name × LinkDeclarations) (xs ys : List (ℕ × Half)) (o : ℕ × Half) → slice_get entries i ≡ Some t → ys ≡ xs ++ o ∷ []
      → ((e : ℕ) (h : Half) → (◌≡◌ {A = Option (ℕ × Half)} (Some o) (Some (e, h))) ↔ IsNumberedOffer g t e h) → AreRefused g Forward (take i entries) xs → AreRefused g Forward (take (i + 1) entries) ys
  refused_some entries i t xs ys o at is finds refused e h offer = (
    (λ yes.
        subst (λ l. IsListed g l e h) (sym (take_next entries i t at))
        ((listed_more g (take i entries) t e h).1
        (elim ((refused_more xs o e h).0 (subst (λ l. IsTrue (is_refused l e h)) is yes)) [
          | inl before ↦ inl ((refused e h offer).0 before)
          | inr last ↦ inr ((finds e h).0 (λ k. Some (last.0 k, last.1 k))).told_so
        ]))),
    (λ listed.
        subst (λ l. IsTrue (is_refused l e h)) (sym is)
        ((refused_more xs o e h).1
        (elim ((listed_more g (take i entries) t e h).0 (subst (λ l. IsListed g l e h) (take_next entries i t at) listed)) [
          | inl before ↦ inl ((refused e h offer).1 before)
          | inr told ↦ inr (some_pair_parts o.0 e o.1 h ((finds e h).1 (record { offer = offer; told_so = told })))
        ]))),
  )

  pub refused_none : (entries : List (Name × Name × LinkDeclarations)) (i : ℕ) (t : Name × Name × LinkDeclarations) (xs : List (ℕ × Half)) → slice_get entries i ≡ Some t
      → ((e : ℕ) (h : Half) → IsNumberedOffer g t e h → ⊥) → AreRefused g Forward (take i entries) xs → AreRefused g Forward (take (i + 1) entries) xs
  refused_none entries i t xs at never refused e h offer = (
    (λ yes. subst (λ l. IsListed g l e h) (sym (take_next entries i t at)) ((listed_more g (take i entries) t e h).1 (inl ((refused e h offer).0 yes)))),
    (λ listed. elim ((listed_more g (take i entries) t e h).0 (subst (λ l. IsListed g l e h) (take_next entries i t at) listed)) [
      | inl before ↦ (refused e h offer).1 before
      | inr told ↦ absurd (never e h (record { offer = offer; told_so = told }))
    ]),
  )
