-- What is said with each widening, one after the other.
use Rattle.std.proofs.Common.{◌≡◌, ◌∙◌, ap, sym, refl, subst, ℕ, ◌+◌, ◌<◌, List, [], ◌∷◌, ◌++◌, append_assoc, flat_map, get_or, length, take}
use Rattle.std.specs.List.{AllZip}
use Rattle.std.proofs.lemmas.List.{append-nil, take_more}
use Rattle.plan_names.specs.wider.widenings.Widenings.{widenings}
use Rattle.plan_names.specs.declared.wider.widenings.widening.Widening.{Widening}
use Rattle.plan_names.specs.declared.wider.widenings.widening.Widening.TheVariants as widening

-- the texts of pairs, one after the other
abbrev pub texts_of : {X : Type 0} → (Widening → X → List ℕ) → List Widening → List X → List ℕ
texts_of f [] xs = []
texts_of f (v ∷ vs) [] = []
texts_of f (v ∷ vs) (x ∷ xs) = f v x ++ texts_of f vs xs

-- each of these widenings has a value with the property, and the texts of all were added to the first text
pub record AreSaidSo {X : Type 0} (P : Widening → X → Type 0) (f : Widening → X → List ℕ) (vs : List Widening) (first all : List ℕ) : Type 0 where
  pub values : List X
  pub have : AllZip P vs values
  pub is_all : all ≡ first ++ texts_of f vs values

zip_more : {X : Type 0} (P : Widening → X → Type 0) (vs : List Widening) (xs : List X) (v : Widening) (x : X) → AllZip P vs xs → P v x → AllZip P (vs ++ v ∷ []) (xs ++ x ∷ [])
zip_more P [] [] v x h p = (p, tt)
zip_more P [] (y ∷ ys) v x h p = absurd h
zip_more P (w ∷ ws) [] v x h p = absurd h
zip_more P (w ∷ ws) (y ∷ ys) v x (q, h) p = (q, zip_more P ws ys v x h p)

texts_more : {X : Type 0} (P : Widening → X → Type 0) (f : Widening → X → List ℕ) (vs : List Widening) (xs : List X) (v : Widening) (x : X) → AllZip P vs xs
    → texts_of f (vs ++ v ∷ []) (xs ++ x ∷ []) ≡ texts_of f vs xs ++ f v x
texts_more P f [] [] v x h = append-nil (f v x)
texts_more P f [] (y ∷ ys) v x h = absurd h
texts_more P f (w ∷ ws) [] v x h = absurd h
texts_more P f (w ∷ ws) (y ∷ ys) v x (q, h) = ap (λ z. f w y ++ z) (texts_more P f ws ys v x h) ∙ sym (append_assoc (f w y) (texts_of f ws ys) (f v x))

-- one more widening
said_more : {X : Type 0} (P : Widening → X → Type 0) (f : Widening → X → List ℕ) (vs : List Widening) (first all new : List ℕ) (v : Widening) (x : X)
    → AreSaidSo P f vs first all → P v x → new ≡ all ++ f v x → AreSaidSo P f (vs ++ v ∷ []) first new
said_more P f vs first all new v x so p grown = record {
  values = so.values ++ x ∷ [];
  have = zip_more P vs so.values v x so.have p;
  is_all = grown ∙ ap (λ z. z ++ f v x) so.is_all ∙ append_assoc first (texts_of f vs so.values) (f v x) ∙ ap (λ z. first ++ z) (sym (texts_more P f vs so.values v x so.have));
}

said_next : {X : Type 0} (P : Widening → X → Type 0) (f : Widening → X → List ℕ) (vs : List Widening) (i : ℕ) (d v : Widening) (first all new : List ℕ) (x : X) → i < length vs → v ≡ get_or vs i d
    → AreSaidSo P f (take i vs) first all → P v x → new ≡ all ++ f v x → AreSaidSo P f (take (i + 1) vs) first new
said_next P f vs i d v first all new x within is so p grown =
    let at : take i vs ++ v ∷ [] ≡ take (i + 1) vs = ap (λ z. take i vs ++ z ∷ []) is ∙ sym (take_more vs i d within) in
    subst (λ z. AreSaidSo P f z first new) at (said_more P f (take i vs) first all new v x so p grown)

-- the loop's step
pub said_step : {X : Type 0} (P : Widening → X → Type 0) (f : Widening → X → List ℕ) (vs : List Widening) (i : ℕ) (d : Widening) (first all new : List ℕ) → i < length vs → AreSaidSo P f (take i vs) first all
    → (x : X) → P (get_or vs i d) x → new ≡ all ++ f (get_or vs i d) x → AreSaidSo P f (take (i + 1) vs) first new
said_step P f vs i d first all new within so x p grown = said_next P f vs i d (get_or vs i d) first all new x within refl so p grown

-- a value for each widening
abbrev pub by_widening : {X : Type 0} → X → X → X → X → X → Widening → X
by_widening a b c d e widening.AllFeatures = a
by_widening a b c d e widening.AllMembers = b
by_widening a b c d e widening.Tests = c
by_widening a b c d e widening.EveryPlatform = d
by_widening a b c d e widening.Together = e

-- all widenings are done
pub record AllAreSaid {X : Type 0} (P : Widening → X → Type 0) (f : Widening → X → List ℕ) (first all : List ℕ) : Type 0 where
  pub value : Widening → X
  pub have : (v : Widening) → P v (value v)
  pub is_all : all ≡ first ++ flat_map (λ v. f v (value v)) widenings

each_has : {X : Type 0} (P : Widening → X → Type 0) (a b c d e : X) → AllZip P widenings (a ∷ b ∷ c ∷ d ∷ e ∷ []) → (v : Widening) → P v (by_widening a b c d e v)
each_has P a b c d e h widening.AllFeatures = h.0
each_has P a b c d e h widening.AllMembers = h.1.0
each_has P a b c d e h widening.Tests = h.1.1.0
each_has P a b c d e h widening.EveryPlatform = h.1.1.1.0
each_has P a b c d e h widening.Together = h.1.1.1.1.0

from_values : {X : Type 0} (P : Widening → X → Type 0) (f : Widening → X → List ℕ) (first all : List ℕ) (xs : List X) → AllZip P widenings xs → all ≡ first ++ texts_of f widenings xs → AllAreSaid P f first all
from_values P f first all (a ∷ b ∷ c ∷ d ∷ e ∷ []) h is = record { value = by_widening a b c d e; have = each_has P a b c d e h; is_all = is }
from_values P f first all [] h is = absurd h
from_values P f first all (a ∷ []) h is = absurd h.1
from_values P f first all (a ∷ b ∷ []) h is = absurd h.1.1
from_values P f first all (a ∷ b ∷ c ∷ []) h is = absurd h.1.1.1
from_values P f first all (a ∷ b ∷ c ∷ d ∷ []) h is = absurd h.1.1.1.1
from_values P f first all (a ∷ b ∷ c ∷ d ∷ e ∷ g ∷ xs) h is = absurd h.1.1.1.1.1

-- the loop's end
pub all_said : {X : Type 0} (P : Widening → X → Type 0) (f : Widening → X → List ℕ) (vs : List Widening) (first all : List ℕ) → vs ≡ widenings → AreSaidSo P f vs first all → AllAreSaid P f first all
all_said P f vs first all is so =
    let done = subst (λ z. AreSaidSo P f z first all) is so in
    from_values P f first all done.values done.have done.is_all
