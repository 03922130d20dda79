-- Edges that share storage.
use Rattle.std.proofs.Common.{◌≡◌, ℕ, zero, suc, ◌<◌, ◌≤◌, ⊎_elim, List, [], ◌∷◌, ◌++◌, length, map, get_or, false, None, Some, refl, ap, sym, ◌∙◌, subst, arith}
use Rattle.std.specs.Prelude.{nat_lt, slice_get}
use Rattle.std.specs.Option.{option_map}
use Rattle.std.proofs.lemmas.Bool.Decides.{nat_tests}
use Rattle.std.proofs.lemmas.List.{length-map, map-append}
use Rattle.std.proofs.lemmas.List.Elements.{All-nil, All-head, All-tail, All-push, All-weaker, All-get_or}
use Rattle.std.proofs.lemmas.Option.{slice_get-map, slice_get-get_or, slice_get_within, get_or_from_slice_get}
use Rattle.feature_links.specs.declared.edge.EdgeChoice.TheVariants.{FeatureToBaseAndNamed}
use Rattle.feature_links.specs.declared.edge.FeatureEdge.{FeatureEdge}
use Rattle.feature_edges.specs.Choices.{is_chosen}
use Rattle.feature_links.specs.Facts.{EdgeFacts, base_edge, feature_edge, colon_edge, strong_edge, weak_edge, section_edge}
use Rattle.feature_edges.specs.inner.Pools.{AreWithin, IsParted, Keeps, facts_at, fixed_place}
use Rattle.feature_links.specs.Values.{edge_facts}
use Rattle.feature_edges.proofs.Places.{get_left, get_right, get_cases, got_same}

-- the value at a place of a pool
said_at : (pool : List FeatureEdge) (p : ℕ) → p < length pool → slice_get (map edge_facts pool) p ≡ Some (get_or (map edge_facts pool) p base_edge)
said_at pool p h = slice_get-get_or (map edge_facts pool) p base_edge (omega (arith, h, length-map pool edge_facts))

place_below : (pool : List FeatureEdge) (p : ℕ) (f : EdgeFacts) → slice_get (map edge_facts pool) p ≡ Some f → p < length pool
place_below pool p f h = omega (arith, slice_get_within (map edge_facts pool) p f h, length-map pool edge_facts)

said_here : (pool : List FeatureEdge) (p : ℕ) (e : FeatureEdge) → slice_get pool p ≡ Some e → slice_get (map edge_facts pool) p ≡ Some (edge_facts e)
said_here pool p e h = slice_get-map edge_facts pool p ∙ ap (option_map edge_facts) h

pub facts_long : (pool : List FeatureEdge) (places : List ℕ) → length (facts_at pool places) ≡ length places
facts_long pool places = length-map places (λ p. get_or (map edge_facts pool) p base_edge)

pub number_within : (pool : List FeatureEdge) (places : List ℕ) (facts : List EdgeFacts) (k : ℕ) → facts_at pool places ≡ facts → k < length facts → k < length places
number_within pool places facts k h l = omega (arith, l, facts_long pool places, ap length h)

pub none_within : (pool : List FeatureEdge) (places : List ℕ) → places ≡ [] → AreWithin pool places
none_within pool places h = subst (AreWithin pool) (sym h) (All-nil (λ p. p < length pool))

pub none_there : (pool : List FeatureEdge) (places : List ℕ) → places ≡ [] → facts_at pool places ≡ []
none_there pool places h = ap (facts_at pool) h

-- a pool with one more edge
pub keeps_more : (old : List FeatureEdge) (e : FeatureEdge) → Keeps old (old ++ e ∷ [])
keeps_more old e p f h = ap (λ z. slice_get z p) (map-append edge_facts old (e ∷ [])) ∙ get_left (map edge_facts old) (edge_facts e ∷ []) p f h

pub last_place : (old : List FeatureEdge) (e : FeatureEdge) (p : ℕ) → p ≡ length old → slice_get (map edge_facts (old ++ e ∷ [])) p ≡ Some (edge_facts e)
last_place old e p h = ap (λ z. slice_get z p) (map-append edge_facts old (e ∷ [])) ∙ get_right (map edge_facts old) (edge_facts e ∷ []) p 0 (omega (arith, h, length-map old edge_facts))

only_one : (x : EdgeFacts) (m : ℕ) (y : EdgeFacts) → slice_get (x ∷ []) m ≡ Some y → x ≡ y
only_one x zero y h = got_same x y h
only_one x (suc m) y h = cc

-- a pool with one more conditional edge
pub parted_more : (old : List FeatureEdge) (e : FeatureEdge) → fixed_place (edge_facts e) ≡ None → IsParted old → IsParted (old ++ e ∷ [])
parted_more old e h parted = record {
  to_base = keeps_more old e 0 base_edge parted.to_base;
  to_named = keeps_more old e 1 feature_edge parted.to_named;
  conditional = λ p f l is. ⊎_elim
      (λ here. parted.conditional p f l here)
      (λ last. subst (λ z. fixed_place z ≡ None) (only_one (edge_facts e) last.0 f last.2) h)
      (get_cases (map edge_facts old) (edge_facts e ∷ []) p f (sym (ap (λ z. slice_get z p) (map-append edge_facts old (e ∷ []))) ∙ is));
}

not_fixed : (f : EdgeFacts) → fixed_place f ≡ None → is_chosen FeatureToBaseAndNamed f ≡ false
not_fixed base_edge h = cc
not_fixed feature_edge h = cc
not_fixed (colon_edge l) h = refl
not_fixed (strong_edge l) h = refl
not_fixed (weak_edge l halves) h = refl
not_fixed (section_edge l) h = refl

not_first : (p : ℕ) → 2 ≤ p → nat_lt p 2 ≡ false
not_first p h = grind (arith, nat_tests)

-- the unconditional edges have the first places
chosen_at : (pool : List FeatureEdge) (p : ℕ) (f : EdgeFacts) → IsParted pool → slice_get (map edge_facts pool) p ≡ Some f → is_chosen FeatureToBaseAndNamed f ≡ nat_lt p 2
chosen_at pool zero f parted is = ap (is_chosen FeatureToBaseAndNamed) (sym (got_same base_edge f (sym parted.to_base ∙ is)))
chosen_at pool (suc zero) f parted is = ap (is_chosen FeatureToBaseAndNamed) (sym (got_same feature_edge f (sym parted.to_named ∙ is)))
chosen_at pool (suc (suc p)) f parted is = not_fixed f (parted.conditional (suc (suc p)) f (omega arith) is) ∙ sym (not_first (suc (suc p)) (omega arith))

module _ (old new : List FeatureEdge) (keeps : Keeps old new) where
  stays : (p : ℕ) → p < length old → get_or (map edge_facts new) p base_edge ≡ get_or (map edge_facts old) p base_edge
  stays p h = get_or_from_slice_get (map edge_facts new) p (get_or (map edge_facts old) p base_edge) base_edge (keeps p (get_or (map edge_facts old) p base_edge) (said_at old p h))

  pub still_within : (places : List ℕ) → AreWithin old places → AreWithin new places
  still_within places h = All-weaker (λ p. p < length old) (λ p. p < length new) (λ p l. place_below new p (get_or (map edge_facts old) p base_edge) (keeps p (get_or (map edge_facts old) p base_edge) (said_at old p l))) places h

  pub same_facts : (places : List ℕ) → AreWithin old places → facts_at new places ≡ facts_at old places
  same_facts [] h = refl
  same_facts (p ∷ places) h =
      ap (λ z. z ∷ facts_at new places) (stays p (All-head (λ q. q < length old) p places h))
      ∙ ap (λ z. get_or (map edge_facts old) p base_edge ∷ z) (same_facts places (All-tail (λ q. q < length old) p places h))

  -- one place more
  module _ (places after : List ℕ) (p : ℕ) (f : EdgeFacts) (within : AreWithin old places) (here : slice_get (map edge_facts new) p ≡ Some f) (more : after ≡ places ++ p ∷ []) where
    pub more_within : AreWithin new after
    more_within = subst (AreWithin new) (sym more) (All-push (λ q. q < length new) places p (still_within places within) (place_below new p f here))

    pub more_facts : facts_at new after ≡ facts_at old places ++ f ∷ []
    more_facts =
        ap (facts_at new) more
        ∙ map-append (λ q. get_or (map edge_facts new) q base_edge) places (p ∷ [])
        ∙ ap (λ z. z ++ get_or (map edge_facts new) p base_edge ∷ []) (same_facts places within)
        ∙ ap (λ z. facts_at old places ++ z ∷ []) (get_or_from_slice_get (map edge_facts new) p f base_edge here)

-- the edge at a number
module _ (pool : List FeatureEdge) (places : List ℕ) (k p : ℕ) (there : slice_get places k ≡ Some p) where
  pub place_within : AreWithin pool places → p < length pool
  place_within h = subst (λ q. q < length pool) (get_or_from_slice_get places k p p there) (All-get_or (λ q. q < length pool) places k p (slice_get_within places k p there) h)

  pub facts_there : (e : FeatureEdge) → slice_get pool p ≡ Some e → slice_get (facts_at pool places) k ≡ Some (edge_facts e)
  facts_there e h =
      slice_get-map (λ q. get_or (map edge_facts pool) q base_edge) places k
      ∙ ap (option_map (λ q. get_or (map edge_facts pool) q base_edge)) there
      ∙ ap Some (get_or_from_slice_get (map edge_facts pool) p (edge_facts e) base_edge (said_here pool p e h))

  pub said_there : AreWithin pool places → (f : EdgeFacts) → slice_get (facts_at pool places) k ≡ Some f → slice_get (map edge_facts pool) p ≡ Some f
  said_there h f e =
      said_at pool p (place_within h)
      ∙ sym (slice_get-map (λ q. get_or (map edge_facts pool) q base_edge) places k ∙ ap (option_map (λ q. get_or (map edge_facts pool) q base_edge)) there)
      ∙ e

  pub chosen_there : AreWithin pool places → IsParted pool → Some (nat_lt p 2) ≡ option_map (is_chosen FeatureToBaseAndNamed) (slice_get (facts_at pool places) k)
  chosen_there h parted =
      let said = get_or (map edge_facts pool) p base_edge in
      let here : slice_get (facts_at pool places) k ≡ Some said = slice_get-map (λ q. get_or (map edge_facts pool) q base_edge) places k ∙ ap (option_map (λ q. get_or (map edge_facts pool) q base_edge)) there in
      sym (ap (option_map (is_chosen FeatureToBaseAndNamed)) here ∙ ap Some (chosen_at pool p said parted (said_at pool p (place_within h))))
