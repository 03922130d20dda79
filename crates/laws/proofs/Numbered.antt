-- Items with their numbers.
use Rattle.std.proofs.Common.{◌≡◌, ⊎_elim, ℕ, zero, suc, ◌+◌, List, [], ◌∷◌, Bool, true, false, Option, None, Some, refl, ap, sym, ◌∙◌, subst}
use Rattle.std.specs.Prelude.{Contains, slice_get}
use Rattle.std.specs.Option.{unwrap_or}
use Rattle.std.proofs.lemmas.List.Elements.{Contains-append_cases}
use Rattle.feature_core.proofs.AddsLemmas.{Contains-none}
use Rattle.plan_rows.specs.Tables.{each_from, flag_at}
use Rattle.cargo_plans.specs.plan_starts.Lists.{joined_from}
use Rattle.laws.proofs.Members.{number_first, number_on, same_some}

-- the item with its number, of which a value is
pub record IsEach {X Y : Type 0} (f : ℕ → X → Y) (k : ℕ) (xs : List X) (m : ℕ) (y : Y) : Type 0 where
  pub item : X
  pub there : slice_get xs m ≡ Some item
  pub is : f (k + m) item ≡ y

pub each_back : {X Y : Type 0} (f : ℕ → X → Y) (k : ℕ) (xs : List X) (m : ℕ) (y : Y) → slice_get (each_from f k xs) m ≡ Some y → IsEach f k xs m y
each_back f k [] m y h = absurd (cc)
each_back f k (x ∷ xs) zero y h = record { item = x; there = refl; is = ap (λ n. f n x) (sym (number_first k)) ∙ same_some (f k x) y h }
each_back f k (x ∷ xs) (suc m) y h =
    let r = each_back f (k + 1) xs m y h in
    record { item = r.item; there = r.there; is = ap (λ n. f n r.item) (sym (number_on k m)) ∙ r.is }

-- the item with its number, from which a joined value comes
pub record IsJoined {X Y : Type 0} (f : ℕ → X → List Y) (k : ℕ) (xs : List X) (y : Y) : Type 0 where
  pub place : ℕ
  pub item : X
  pub there : slice_get xs place ≡ Some item
  pub member : Contains (f (k + place) item) y

pub joined_back : {X Y : Type 0} (f : ℕ → X → List Y) (k : ℕ) (xs : List X) (y : Y) → Contains (joined_from f k xs) y → IsJoined f k xs y
joined_back f k [] y h = absurd (Contains-none y h)
joined_back f k (x ∷ xs) y h = ⊎_elim
    (λ i. record { place = zero; item = x; there = refl; member = subst (λ n. Contains (f n x) y) (number_first k) i })
    (λ i. let r = joined_back f (k + 1) xs y i in record { place = suc r.place; item = r.item; there = r.there; member = subst (λ n. Contains (f n r.item) y) (number_on k r.place) r.member })
    (Contains-append_cases (f k x) (joined_from f (k + 1) xs) y h)

-- a flag that is set is in the list
pub flag_there : (flags : List Bool) (k : ℕ) → flag_at flags k ≡ true → slice_get flags k ≡ Some true
flag_there flags k h = go (slice_get flags k) refl h
  where
    go : (o : Option Bool) → slice_get flags k ≡ o → unwrap_or o false ≡ true → slice_get flags k ≡ Some true
    go None e i = absurd (cc)
    go (Some b) e i = e ∙ ap Some i
