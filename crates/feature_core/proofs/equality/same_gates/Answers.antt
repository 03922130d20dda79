use Rattle.std.proofs.Common.{◌≡◌, ◌∙◌, ◌&&◌, ℕ, Bool, true, false, ap, refl, eqb}
use Rattle.std.specs.Bool.{Decides}
use Rattle.std.proofs.lemmas.Bool.Decides.{Decides-eqb}
use Rattle.std.proofs.lemmas.Slice.Eq.{slice_eq-Decides}
use Rattle.feature_core.proofs.SameData.{alike_at}
use Rattle.feature_core.proofs.equality.same_gates.Goals as goal

both : (a b : Bool) → a ≡ true → b ≡ true → (a && b) ≡ true
both a b h i = rw (h, i) refl

firsts : (a b : Bool) → (a && b) ≡ true → (a ≡ true) × (b ≡ true)
firsts true true h = (refl, refl)
firsts true false h = cc
firsts false b h = cc

-- `==` of pairs of numbers decides whether they are equal
pairs : (p q : ℕ × ℕ) → Decides (eqb p.0 q.0 && eqb p.1 q.1) (p ≡ q)
pairs p q = (
  (λ h. let s = firsts (eqb p.0 q.0) (eqb p.1 q.1) h in let a : p.0 ≡ q.0 = (Decides-eqb p.0 q.0).0 s.0 in let b : p.1 ≡ q.1 = (Decides-eqb p.1 q.1).0 s.1 in ap (λ x. (x, p.1)) a ∙ ap (λ y. (q.0, y)) b),
  λ e. both (eqb p.0 q.0) (eqb p.1 q.1) ((Decides-eqb p.0 q.0).1 (ap (λ z. z.0) e)) ((Decides-eqb p.1 q.1).1 (ap (λ z. z.1) e)),
)

pub returns : goal.returns
returns c = alike_at _ _ _ _ _ c.as_slice-own.ensures.entries c.as_slice-others.ensures.entries (slice_eq-Decides {E = λ p q. eqb p.0 q.0 && eqb p.1 q.1} pairs c.as_slice-own.result c.as_slice-others.result c.eq.result c.eq.ensures)
