-- The explanation of a walk passes both checks.
use Rattle.std.proofs.Common.{◌≡◌, ◌∙◌, ◌++◌, ◌∷◌, ◌⊎◌, [], ap, refl, sym, subst, inl, inr, ⊎_elim, ℕ, zero, suc, Bool, true, false, cond, ◌&&◌, List, Option, Some, None}
use Rattle.std.specs.Prelude.{◌↔◌, ◌==◌, IsTrue, map, slice_get}
use Rattle.std.specs.Option.{option_map_or}
use Rattle.std.proofs.lemmas.Option.{none-some}
use Rattle.digraphs.specs.Bits.{has}
use Rattle.guppy_packages.specs.declared.direction.DependencyDirection.{DependencyDirection}
use Rattle.guppy_packages.specs.declared.direction.DependencyDirection.TheVariants.{Forward}
use Rattle.feature_labels.specs.declared.link_declarations.LinkDeclarations.{LinkDeclarations}
use Rattle.feature_core.specs.Built.{NodeNamed}
use Rattle.feature_core.specs.Offers.{content_of, HaveOneName, IsOffer}
use Rattle.feature_links.specs.Facts.{link_at}
use Rattle.feature_links.specs.Links.{LinkFacts}
use Rattle.walk_engine.specs.declared.walks.Half.{Half}
use Rattle.walk_engine.specs.declared.walks.Step.{Step}
use Rattle.walk_engine.specs.Explanations.{IsExplanation, refused_of}
use Rattle.walk_engine.specs.Laws.{every}
use Rattle.walk_engine.specs.Walks.{Call, Content, IsLegal, is_half}
use Rattle.walk_checks.specs.Exact.{IsExact, IsExplainedRun, is_refused}
use Rattle.feature_graph.specs.Explained.{IsListed, OffersAreTold, PassesChecks}
use Rattle.feature_graph.specs.Told.{offer_told}
use Rattle.feature_graph.specs.Values.{Graph}
use Rattle.feature_graph.proofs.NumberedLemmas.{false_true, heads_same, none_listed, offer_forward, or_cases, same_offer, tails_same}
use Rattle.feature_graph.proofs.ToldLemmas.{Name, offer_there}
use Rattle.feature_graph.proofs.WorkspaceLemmas.{got_pushed}

-- the offers of the list are offers of the content
abbrev AreOffersOf : Content → List (ℕ × Half) → Type 0
AreOffersOf c offers = (k : ℕ) (o : ℕ × Half) → slice_get offers k ≡ Some o → IsOffer c o.0 o.1

-- the refused offers of a legal run are offers
refused_offers : (c : Content) (I : ℕ → Bool) (run : List Call) → IsLegal c I run → AreOffersOf c (refused_of run)
refused_offers c I [] legal = λ k o at. absurd (none-some o at)
refused_offers c I (call ∷ before) (due, legal) =
    elim call.answer as (λ b. AreOffersOf c (cond b (refused_of before) (refused_of before ++ (call.edge, call.half) ∷ []))) [
      | true ↦ refused_offers c I before legal
      | false ↦ λ k o at. ⊎_elim
          (λ earlier. refused_offers c I before legal k o earlier)
          (λ last. subst (λ (p : ℕ × Half). IsOffer c p.0 p.1) last (record { way = due.way; is_way = due.is_way; half = due.half }))
          (got_pushed (refused_of before) (call.edge, call.half) k o at)
    ]

module _ (g : Graph) (names : (d : ℕ) (i : Half) (e : ℕ) (j : Half) → IsOffer (content_of Forward g.built) d i → IsOffer (content_of Forward g.built) e j → HaveOneName g.built d i e j → (d ≡ e) × (i ≡ j))
    (one_node : (name : Name) (m n : ℕ) → NodeNamed g.tables m name → NodeNamed g.tables n name → m ≡ n) (direction : DependencyDirection) where
  abbrev IsOfGraph : ℕ → Half → Type 0
  IsOfGraph e h = IsOffer (content_of direction g.built) e h

  -- two offers with one name are the same
  one_offer : (d : ℕ) (i : Half) (e : ℕ) (j : Half) (told : Name × Name × LinkDeclarations) → IsOfGraph d i → IsOfGraph e j → offer_told g (d, i) ≡ Some told → offer_told g (e, j) ≡ Some told → (d ≡ e) × (i ≡ j)
  one_offer d i e j told first second a b =
      let x = offer_there g d i told.0 told.1 told.2 a in
      let y = offer_there g e j told.0 told.1 told.2 b in
      names d i e j (offer_forward direction g.built d i first) (offer_forward direction g.built e j second) (record {
        one = x.ends.edge;
        is_one = x.ends.is_edge;
        other = y.ends.edge;
        is_other = y.ends.is_edge;
        from = one_node told.0 x.ends.edge.0 y.ends.edge.0 x.ends.from_is y.ends.from_is;
        to = one_node told.1 x.ends.edge.1 y.ends.edge.1 x.ends.to_is y.ends.to_is;
        link = x.facts;
        is_link = sym (ap {B = Option LinkFacts} (λ o. option_map_or (λ z. link_at z.2 i) o None) x.ends.is_edge) ∙ x.is_facts;
        other_link = y.facts;
        is_other_link = sym (ap {B = Option LinkFacts} (λ o. option_map_or (λ z. link_at z.2 j) o None) y.ends.is_edge) ∙ y.is_facts;
        declarations = x.over ∙ sym y.over;
      })

  -- a listed offer has the name of the first entry, or is listed among the others
  at_entry : (x : Name × Name × LinkDeclarations) (entries : List (Name × Name × LinkDeclarations)) (e : ℕ) (h : Half) → IsListed g (x ∷ entries) e h → (offer_told g (e, h) ≡ Some x) ⊎ IsListed g entries e h
  at_entry x entries e h (zero, entry, at, is) = inl (is ∙ sym at)
  at_entry x entries e h (suc k, entry, at, is) = inr (k, entry, at, is)

  -- the refused offers are those that the entries name
  are_refused : (offers : List (ℕ × Half)) (entries : List (Name × Name × LinkDeclarations)) → AreOffersOf (content_of direction g.built) offers → OffersAreTold g offers entries
      → (e : ℕ) (h : Half) → IsOfGraph e h → IsTrue (is_refused offers e h) ↔ IsListed g entries e h
  are_refused [] [] of told e h offer = ((λ t. absurd (false_true t)), (λ l. absurd (none_listed g e h l)))
  are_refused [] (x ∷ entries) of told e h offer = absurd (cc)
  are_refused (o ∷ offers) [] of told e h offer = absurd (cc)
  are_refused (o ∷ offers) (x ∷ entries) of told e h offer =
      let here : offer_told g o ≡ Some x = heads_same (offer_told g o) (Some x) (map (offer_told g) offers) (map Some entries) told in
      let rest = are_refused offers entries (λ k p at. of (suc k) p at) (tails_same (offer_told g o) (Some x) (map (offer_told g) offers) (map Some entries) told) e h offer in
      let split = or_cases ((o.0 == e) && is_half o.1 h) (is_refused offers e h) in
      let last = same_offer o e h in (
        (λ t. ⊎_elim
            (λ first. let same = last.0 first in let is : ◌≡◌ {A = ℕ × Half} o (e, h) = λ i. (same.0 i, same.1 i) in (0, x, refl, subst (λ p. offer_told g p ≡ Some x) is here))
            (λ later. let more = rest.0 later in (suc more.0, more.1, more.2, more.3))
            (split.0 t)),
        (λ l. split.1
            (⊎_elim
            (λ now. inl (last.1 (one_offer o.0 o.1 e h x (of 0 o refl) offer here now)))
            (λ later. inr (rest.1 later))
            (at_entry x entries e h l))),
      )

  -- a walk that is explained passes both checks
  pub run_passes : (initials : List Bool) (M : ℕ → Bool) (steps : List Step) (refused : List (ℕ × Half)) → IsExplainedRun (content_of direction g.built) (has initials) M steps refused
      → IsExplanation (content_of direction g.built) (has initials) every steps → IsExact (content_of direction g.built) (has initials) refused steps → PassesChecks g direction initials steps refused
  run_passes initials M steps refused run explained exact =
      let of = subst (AreOffersOf (content_of direction g.built)) (sym run.refused_in_order) (refused_offers (content_of direction g.built) (has initials) run.walk.run run.walk.legal) in
      record {
        explains = λ called told holds are. record { initials = initials; are_initials = holds; steps = steps; are_steps = are; explanation = explained };
        explains_all = λ called told entries holds are listed. record { initials = initials; are_initials = holds; steps = steps; are_steps = are; refused = refused; are_refused = are_refused refused entries of listed; exact = exact };
      }
