use Rattle.std.proofs.Common.{◌≡◌, ℕ, Bool, ◌&&◌, ◌⊎◌, List, [], ◌∷◌, ◌++◌, refl, sym, ◌∙◌, subst, inl, inr}
use Rattle.std.specs.Prelude.{IsTrue}
use Rattle.walk_engine.specs.declared.walks.Half.{Half}
use Rattle.walk_engine.specs.declared.walks.Half.TheVariants.{Full, Required, Optional}
use Rattle.walk_engine.specs.declared.walks.Ask.{Ask}
use Rattle.walk_engine.specs.declared.walks.Ask.TheVariants as asks
use Rattle.walk_engine.specs.Walks.{Content, Way, IsWay, has_half, is_open, Path, Reach}
use Rattle.feature_core.proofs.Answered.{or_cases, and_both}

pub path_more : (c : Content) (A : ℕ → Half → Bool) (a : ℕ) (es : List ℕ) (b e : ℕ) (w : Way) → Path c A a es b → IsWay c e w → w.start ≡ b → IsTrue (is_open A e w.ask) → Path c A a (es ++ e ∷ []) w.far
path_more c A a [] b e w p is st op = (w, is, st ∙ sym p, op, refl)
path_more c A a (f ∷ es) b e w (v, iv, sv, ov, rest) is st op = (v, iv, sv, ov, path_more c A v.far es b e w rest is st op)

-- one more open way
pub reach_more : (c : Content) (I : ℕ → Bool) (A : ℕ → Half → Bool) (e : ℕ) (w : Way) → IsWay c e w → IsTrue (is_open A e w.ask) → Reach c I A w.start → Reach c I A w.far
reach_more c I A e w is op (a, es, i, p) = (a, es ++ e ∷ [], i, path_more c A a es w.start e w p is refl op)

pub path_in : (c : Content) (A : ℕ → Half → Bool) (S : ℕ → Type 0) → ((e : ℕ) (w : Way) → IsWay c e w → IsTrue (is_open A e w.ask) → S w.start → S w.far) → (a : ℕ) (es : List ℕ) (b : ℕ) → Path c A a es b → S a → S b
path_in c A S f a [] b p s = subst S p s
path_in c A S f a (e ∷ es) b (w, is, st, op, rest) s = path_in c A S f w.far es b rest (f e w is op (subst S (sym st) s))

-- a set that contains the initial nodes and is closed along open ways contains the reach
pub reach_in : (c : Content) (I : ℕ → Bool) (A : ℕ → Half → Bool) (S : ℕ → Type 0) → ((n : ℕ) → IsTrue (I n) → S n) → ((e : ℕ) (w : Way) → IsWay c e w → IsTrue (is_open A e w.ask) → S w.start → S w.far) → (n : ℕ) → Reach c I A n → S n
reach_in c I A S i f n (a, es, start, p) = path_in c A S f a es n p (i a start)

-- an open way is unconditional, or one of its offers is accepted
pub open_cases : (A : ℕ → Half → Bool) (e : ℕ) (ask : Ask) → IsTrue (is_open A e ask) → (ask ≡ asks.Nobody) ⊎ ((h : Half) × IsTrue (has_half ask h) × IsTrue (A e h))
open_cases A e asks.Nobody t = inl refl
open_cases A e asks.Full t = inr (Full, refl, t)
open_cases A e (asks.Weak required gated) t =
    elim (or_cases (required && A e Required) (A e Optional) t) [
      | inl p ↦ let both = and_both required (A e Required) p in inr (Required, both.0, both.1)
      | inr p ↦ inr (Optional, refl, p)
    ]

pub open_nobody : (A : ℕ → Half → Bool) (e : ℕ) (ask : Ask) → ask ≡ asks.Nobody → IsTrue (is_open A e ask)
open_nobody A e ask p = subst (λ (k : Ask). IsTrue (is_open A e k)) (sym p) refl
