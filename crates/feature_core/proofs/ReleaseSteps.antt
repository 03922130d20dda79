-- Releases collected edge by edge.
use Rattle.std.proofs.Common.{◌≡◌, ℕ, ◌+◌, ◌≤◌, List, [], ◌∷◌, ◌++◌, length, drop, Option, Some, ap, sym, ◌∙◌, append_assoc, append-nil}
use Rattle.std.specs.Prelude.{slice_get}
use Rattle.std.specs.Option.{option_map_or}
use Rattle.std.proofs.lemmas.List.{drop_all}
use Rattle.feature_edges.specs.feature_links.Facts.{EdgeFacts}
use Rattle.feature_core.specs.Ways.{gate_of}
use Rattle.feature_core.specs.inner.Releases.{releases_from}
use Rattle.feature_edges.proofs.ListSteps.{drop_read}

-- the releases of the first `i` edges, and those of the rest
module _ (weak : List (ℕ × ℕ)) (facts : List EdgeFacts) where
  abbrev pub AreSplit : ℕ → List (ℕ × ℕ) → Type 0
  AreSplit i released = released ++ releases_from weak i (drop i facts) ≡ releases_from weak 0 facts

  pub split_more : (i : ℕ) (f : EdgeFacts) (found : Option ℕ) (before after : List (ℕ × ℕ)) → slice_get facts i ≡ Some f → found ≡ gate_of weak f → after ≡ before ++ option_map_or (λ gate. (gate, i) ∷ []) found []
      → AreSplit i before → AreSplit (i + 1) after
  split_more i f found before after h e more s =
      let later = releases_from weak (i + 1) (drop (i + 1) facts) in
      ap (λ z. z ++ later) more
      ∙ append_assoc before (option_map_or (λ gate. (gate, i) ∷ []) found []) later
      ∙ ap (λ o. before ++ (option_map_or (λ gate. (gate, i) ∷ []) o [] ++ later)) e
      ∙ ap (λ z. before ++ releases_from weak i z) (sym (drop_read facts i f h))
      ∙ s

  pub split_all : (i : ℕ) (released : List (ℕ × ℕ)) → length facts ≤ i → AreSplit i released → released ≡ releases_from weak 0 facts
  split_all i released l s = sym (append-nil released) ∙ ap (λ z. released ++ releases_from weak i z) (sym (drop_all i facts l)) ∙ s
