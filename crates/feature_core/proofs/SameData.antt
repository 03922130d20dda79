-- Data compared part by part.
use Rattle.std.proofs.Common.{◌≡◌, ℕ, List, ◌∷◌, [], length, map, Bool, true, false, refl, ap, sym, ◌∙◌, arith}
use Rattle.std.specs.Prelude.{◌↔◌, IsTrue}
use Rattle.std.specs.List.{zip}
use Rattle.digraphs.specs.declared.digraph.Edge.{Edge}
use Rattle.feature_core.specs.Built.{ends_of, pairs_of, built_edges}
use Rattle.feature_edges.specs.feature_links.Facts.{EdgeFacts}
use Rattle.feature_edges.proofs.BuildLemmas.{built_ends}
use Rattle.feature_edges.proofs.SameLists.{is_not}

-- the edges of a digraph with their values, from the pairs of their ends
told_by : List (ℕ × ℕ) → List EdgeFacts → List (ℕ × ℕ × EdgeFacts)
told_by pairs facts = map (λ p. (p.0.0, p.0.1, p.1)) (zip pairs facts)

by_pairs : (edges : List Edge) (facts : List EdgeFacts) → built_edges edges facts ≡ told_by (pairs_of edges) facts
unfolding told_by
by_pairs [] facts = refl
by_pairs (e ∷ edges) [] = refl
by_pairs (e ∷ edges) (f ∷ facts) = ap (λ z. (e.from, e.to, f) ∷ z) (by_pairs edges facts)

facts_back : (edges : List Edge) (facts : List EdgeFacts) → length facts ≡ length edges → map (λ e. e.2) (built_edges edges facts) ≡ facts
facts_back [] [] h = refl
facts_back [] (f ∷ facts) h = absurd (omega (arith, h))
facts_back (e ∷ edges) [] h = absurd (omega (arith, h))
facts_back (e ∷ edges) (f ∷ facts) h = ap (λ z. f ∷ z) (facts_back edges facts (omega (arith, h)))

-- a list of edges as a digraph and the values of its edges
pub record IsShown (all : List (ℕ × ℕ × EdgeFacts)) (edges : List Edge) (facts : List EdgeFacts) : Type 0 where
  pub long : length facts ≡ length edges
  pub shown : built_edges edges facts ≡ all

module _ (a b : List (ℕ × ℕ × EdgeFacts)) (d e : List Edge) (f g : List EdgeFacts) (x : IsShown a d f) (y : IsShown b e g) where
  pairs_alike : a ≡ b → pairs_of d ≡ pairs_of e
  pairs_alike h = sym (built_ends d f x.long) ∙ ap ends_of x.shown ∙ ap ends_of h ∙ sym (ap ends_of y.shown) ∙ built_ends e g y.long

  facts_alike : a ≡ b → f ≡ g
  facts_alike h = sym (facts_back d f x.long) ∙ ap (map (λ z. z.2)) x.shown ∙ ap (map (λ z. z.2)) h ∙ sym (ap (map (λ z. z.2)) y.shown) ∙ facts_back e g y.long

  edges_alike : pairs_of d ≡ pairs_of e → f ≡ g → a ≡ b
  edges_alike p q = sym x.shown ∙ by_pairs d f ∙ ap (λ z. told_by z f) p ∙ ap (told_by (pairs_of e)) q ∙ sym (by_pairs e g) ∙ y.shown

  pub pairs_same : (pairs same : Bool) → IsTrue pairs ↔ (pairs_of d ≡ pairs_of e) → pairs ≡ true → IsTrue same ↔ (f ≡ g) → IsTrue same ↔ (a ≡ b)
  pairs_same pairs same h t i = ((λ s. edges_alike (h.0 t) (i.0 s)), (λ k. i.1 (facts_alike k)))

  pub pairs_apart : (pairs : Bool) → IsTrue pairs ↔ (pairs_of d ≡ pairs_of e) → pairs ≡ false → IsTrue pairs ↔ (a ≡ b)
  pairs_apart pairs h t = ((λ s. absurd (is_not pairs (pairs_of d ≡ pairs_of e) h t (h.0 s))), (λ k. h.1 (pairs_alike k)))

-- a comparison of equal operands
pub alike_at : {X : Type 0} (P : Type 0) (p q a b : X) → p ≡ a → q ≡ b → (P ↔ (p ≡ q)) → (P ↔ (a ≡ b))
alike_at P p q a b h i k = ((λ t. sym h ∙ k.0 t ∙ i), (λ e. k.1 (h ∙ e ∙ sym i)))
