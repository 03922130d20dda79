use Rattle.std.proofs.Common.{◌≡◌, Bool, true, false, ◌&&◌, ◌||◌, ◌⊎◌, refl, sym, ◌∙◌, inl, inr}
use Rattle.std.specs.Prelude.{IsTrue, IsFalse}
use Rattle.walk_engine.specs.declared.walks.Half.{Half}
use Rattle.walk_engine.specs.declared.walks.Half.TheVariants.{Full, Required, Optional}
use Rattle.walk_engine.specs.Walks.{is_half}

pub decide : (b : Bool) → IsTrue b ⊎ IsFalse b
decide true = inl refl
decide false = inr refl

pub clash : {b : Bool} → IsTrue b → IsFalse b → ⊥
clash {b} t f = let e : true ≡ false = sym t ∙ f in cc

pub or_cases : (a b : Bool) → IsTrue (a || b) → IsTrue a ⊎ IsTrue b
or_cases true b h = inl refl
or_cases false b h = inr h

pub or_left : (a b : Bool) → IsTrue a → IsTrue (a || b)
or_left true b h = refl
or_left false b h = absurd (clash h refl)

pub or_right : (a b : Bool) → IsTrue b → IsTrue (a || b)
or_right true b h = refl
or_right false b h = h

pub and_both : (a b : Bool) → IsTrue (a && b) → IsTrue a × IsTrue b
and_both true b h = (refl, h)
and_both false b h = absurd (clash h refl)

pub and_intro : (a b : Bool) → IsTrue a → IsTrue b → IsTrue (a && b)
and_intro true b h k = k
and_intro false b h k = absurd (clash h refl)

pub not_true : (b : Bool) → (IsTrue b → ⊥) → IsFalse b
not_true true f = absurd (f refl)
not_true false f = refl

pub is_half_same : (h k : Half) → IsTrue (is_half h k) → h ≡ k
is_half_same Full Full t = refl
is_half_same Full Required t = absurd (clash t refl)
is_half_same Full Optional t = absurd (clash t refl)
is_half_same Required Full t = absurd (clash t refl)
is_half_same Required Required t = refl
is_half_same Required Optional t = absurd (clash t refl)
is_half_same Optional Full t = absurd (clash t refl)
is_half_same Optional Required t = absurd (clash t refl)
is_half_same Optional Optional t = refl

pub is_half_refl : (h : Half) → IsTrue (is_half h h)
is_half_refl Full = refl
is_half_refl Required = refl
is_half_refl Optional = refl
