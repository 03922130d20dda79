-- Chained options.
use Rattle.std.proofs.Common.{◌≡◌, Option, Some, None, ap, refl, sym, ◌∙◌}
use Rattle.std.specs.Prelude.{IsTrue}
use Rattle.std.specs.Option.{is_some, option_map, option_map_or}
use Rattle.std.proofs.lemmas.Option.{none-some, same_Some}

pub some_there : {A : Type 0} (o : Option A) (a : A) → o ≡ Some a → IsTrue (is_some o)
some_there o a is = ap is_some is

pub there_some : {A : Type 0} (o : Option A) → IsTrue (is_some o) → (a : A) × (o ≡ Some a)
there_some None h = absurd (cc)
there_some (Some a) h = (a, refl)

-- if the chained option is `Some`, both parts are
pub bound_is : {A B : Type 0} (f : A → Option B) (o : Option A) (b : B) → option_map_or f o None ≡ Some b → (a : A) × (o ≡ Some a) × (f a ≡ Some b)
bound_is f None b h = absurd (none-some b h)
bound_is f (Some a) b h = (a, refl, h)

pub bound : {A B : Type 0} (f : A → Option B) (o : Option A) (a : A) (b : B) → o ≡ Some a → f a ≡ Some b → option_map_or f o None ≡ Some b
bound f o a b is at = ap (λ x. option_map_or f x None) is ∙ at

pub mapped_is : {A B : Type 0} (f : A → B) (o : Option A) (b : B) → option_map f o ≡ Some b → (a : A) × (o ≡ Some a) × (f a ≡ b)
mapped_is f None b h = absurd (none-some b h)
mapped_is f (Some a) b h = (a, refl, same_Some _ _ h)

pub mapped : {A B : Type 0} (f : A → B) (o : Option A) (a : A) → o ≡ Some a → option_map f o ≡ Some (f a)
mapped f o a is = ap (option_map f) is

pub one_some : {A : Type 0} (o : Option A) (a b : A) → o ≡ Some a → o ≡ Some b → a ≡ b
one_some o a b p q = same_Some _ _ (sym p ∙ q)
