-- The edges of keys, one after the other.
use Rattle.std.proofs.Common.{◌≡◌, ℕ, zero, suc, ⊎_elim, List, [], ◌∷◌, ◌++◌, length, map, None, Some, refl, ap, sym, ◌∙◌, subst, arith, length-append}
use Rattle.std.specs.Prelude.{slice_get}
use Rattle.std.specs.List.{zip}
use Rattle.std.proofs.lemmas.List.{append_assoc}
use Rattle.std.proofs.lemmas.Option.{slice_get_within}
use Rattle.digraphs.specs.declared.digraph.Edge.{Edge as End}
use Rattle.guppy_packages.specs.Tables.{Tables}
use Rattle.feature_edges.specs.declared.table.MadeEdges.{MadeEdges}
use Rattle.feature_edges.specs.declared.candidate.Key.{Key}
use Rattle.feature_links.specs.Facts.{EdgeFacts}
use Rattle.feature_edges.specs.Edges.{first_ones}
use Rattle.feature_edges.specs.inner.Made.{IsValueOf, IsLast, AreValues, AreMade, edge_end}
use Rattle.feature_edges.specs.inner.Weak.{AreGates, weak_sources}
use Rattle.feature_edges.proofs.Places.{get_cases}

one_there : {X : Type 0} (m : ℕ) (x y : X) → slice_get (x ∷ []) m ≡ Some y → (m ≡ 0) × (x ≡ y)
one_there zero x y h = (refl, cc)
one_there (suc m) x y h = cc

module _ (t : Tables) (weak : List ℕ) where
  values_none : AreValues t weak [] []
  values_none = record { long = refl; each = λ i x f h k. cc }

  values_more : (keys : List Key) (x : Key) (facts : List EdgeFacts) (f : EdgeFacts) → AreValues t weak keys facts → IsValueOf t weak x f → AreValues t weak (keys ++ x ∷ []) (facts ++ f ∷ [])
  values_more keys x facts f h v = record {
    long = omega (arith, length-append facts (f ∷ []), length-append keys (x ∷ []), h.long);
    each = λ j y g k m. ⊎_elim
        (λ a. ⊎_elim
        (λ b. h.each j y g a b)
        (λ b. absurd (omega (arith, slice_get_within keys j y a, b.1, h.long)))
        (get_cases facts (f ∷ []) j g m))
        (λ a. ⊎_elim
        (λ b. absurd (omega (arith, slice_get_within facts j g b, a.1, h.long)))
        (λ b. subst (λ z. IsValueOf t weak y z) (one_there b.0 f g b.2).1 (subst (λ z. IsValueOf t weak z f) (one_there a.0 x y a.2).1 v))
        (get_cases facts (f ∷ []) j g m))
        (get_cases keys (x ∷ []) j y k);
  }

-- the ends of the edges of keys, with one more
ends_more : (keys : List Key) (facts : List EdgeFacts) (x : Key) (f : EdgeFacts) → length facts ≡ length keys
    → map {B = End} (λ p. edge_end p.0 p.1) (zip keys facts) ++ edge_end x f ∷ [] ≡ map (λ p. edge_end p.0 p.1) (zip (keys ++ x ∷ []) (facts ++ f ∷ []))
ends_more [] [] x f h = refl
ends_more [] (g ∷ facts) x f h = absurd (omega (arith, h))
ends_more (k ∷ keys) [] x f h = absurd (omega (arith, h))
ends_more (k ∷ keys) (g ∷ facts) x f h = ap (λ z. edge_end k g ∷ z) (ends_more keys facts x f (omega (arith, h)))

pub made_none : (t : Tables) (m : MadeEdges) → m.weak.entries ≡ [] → m.edges ≡ [] → m.ends ≡ [] → m.last ≡ None → AreMade t [] m
made_none t m weak edges ends last = record {
  links = ap (map (λ e. e.0)) weak;
  gates = subst (λ z. AreGates t z) (sym weak) (λ i k gate h. cc);
  values = λ rest. subst (λ z. AreValues t (map (λ e. e.0) m.weak.entries ++ rest) [] z) (sym edges) (values_none t (map (λ e. e.0) m.weak.entries ++ rest));
  ends = ends;
  last = λ x number is. cc;
}

-- one more edge, whose weak link is noted
pub made_next : (t : Tables) (done : List Key) (x : Key) (old new : MadeEdges) (f : EdgeFacts) (more : List ℕ)
    → map (λ e. e.0) new.weak.entries ≡ first_ones (weak_sources (done ++ x ∷ []))
    → AreGates t new.weak.entries
    → map (λ e. e.0) new.weak.entries ≡ map (λ e. e.0) old.weak.entries ++ more
    → new.edges ≡ old.edges ++ f ∷ []
    → new.ends ≡ old.ends ++ edge_end x f ∷ []
    → ((rest : List ℕ) → IsValueOf t (map (λ e. e.0) new.weak.entries ++ rest) x f)
    → IsLast t new
    → AreMade t done old → AreMade t (done ++ x ∷ []) new
made_next t done x old new f more links gates grown edges ends value last h =
    let numbers : List ℕ = map (λ e. e.0) new.weak.entries in
    record {
      links = links;
      gates = gates;
      values = λ rest.
          let same : map (λ e. e.0) old.weak.entries ++ (more ++ rest) ≡ numbers ++ rest = sym (append_assoc (map (λ e. e.0) old.weak.entries) more rest) ∙ ap (λ z. z ++ rest) (sym grown) in
          let before : AreValues t (numbers ++ rest) done old.edges = subst (λ z. AreValues t z done old.edges) same (h.values (more ++ rest)) in
          subst (λ z. AreValues t (numbers ++ rest) (done ++ x ∷ []) z) (sym edges) (values_more t (numbers ++ rest) done x old.edges f before (value rest));
      ends = ends ∙ ap (λ z. z ++ edge_end x f ∷ []) h.ends ∙ ends_more done old.edges x f (h.values []).long
          ∙ ap (λ z. map (λ p. edge_end p.0 p.1) (zip (done ++ x ∷ []) z)) (sym edges);
      last = last;
    }
