-- Spots that count, and packages that are built.
use Rattle.std.proofs.Common.{◌≡◌, ℕ, List, [], ◌∷◌, Bool, true, false, cond, ◌&&◌, ◌||◌, refl, ap, sym, ◌∙◌, filter}
use Rattle.std.specs.Prelude.{Result, Ok, Err, IfOk}
use Rattle.cargo_plans.specs.built_parts.Built.{is_built}
use Rattle.cargo_plans.specs.built_parts.BuiltViews.{builds_in}
use Rattle.cargo_plans.specs.declared.built_parts.built_parts.BuiltParts.{BuiltParts}
use Rattle.plan_rows.specs.declared.side.Side.{Side}
use Rattle.plan_rows.specs.declared.side.Side.TheVariants.{Host, Target}
use Rattle.cargo_plans.specs.plan_starts.PackageVisits.{PairVisit, is_on}
use Rattle.plan_whys.specs.Steps.{SpotText}
use Rattle.feats_policies.specs.checks.Builds.{BuildText, is_built_anywhere, is_built_on, is_every}
use Rattle.feats_policies.specs.checks.Spots.{counts, is_spot_on}
use Rattle.feats_policies.specs.declared.checks.on_spots.Scope.TheVariants.{Everywhere}
use Rattle.feats_policies.specs.checks.inner.Groups.{builds_anywhere}
use Rattle.feats_policies.specs.checks.inner.Scopes.{is_spot_built, passes}

-- the spots that pass by the parts that are built
pub built_spots : {V E : Type 0} (r : Result V E) (view : V → List SpotText) (b : BuildText) (on : PairVisit) (parts : BuiltParts) (spots : List SpotText)
    → on ≡ b.plan.on → builds_in parts ≡ is_built b.split b.plan.units
    → IfOk r (λ v. view v ≡ filter (λ (s : SpotText). is_on on s.side s.number s.label && builds_in parts s.side s.number) spots) → IfOk r (λ v. view v ≡ filter (is_spot_built b) spots)
built_spots (Ok v) view b on parts spots visit same e =
    e
    ∙ ap (λ (o : PairVisit). filter (λ (s : SpotText). is_on o s.side s.number s.label && builds_in parts s.side s.number) spots) visit
    ∙ ap (λ (f : Side → ℕ → Bool). filter (λ (s : SpotText). is_spot_on b s && f s.side s.number) spots) same
built_spots (Err x) view b on parts spots visit same e = tt

and_true : (a : Bool) → a ≡ (a && true)
and_true true = refl
and_true false = refl

filter_same : {X : Type 0} (p q : X → Bool) → ((x : X) → p x ≡ q x) → (xs : List X) → filter p xs ≡ filter q xs
filter_same p q h [] = refl
filter_same p q h (x ∷ xs) = ap (λ b. cond b (x ∷ filter p xs) (filter p xs)) (h x) ∙ ap (λ l. cond (q x) (x ∷ l) l) (filter_same p q h xs)

-- for every choice all that is on counts
pub on_count : (b : BuildText) (spots : List SpotText) → is_every b.judged ≡ true → filter (is_spot_on b) spots ≡ filter (counts b) spots
on_count b spots e =
    filter_same (is_spot_on b) (λ (s : SpotText). is_spot_on b s && true) (λ s. and_true (is_spot_on b s)) spots
    ∙ ap (λ (w : Bool). filter (λ (s : SpotText). is_spot_on b s && (w || is_built_on b s.side s.number)) spots) (sym e)

-- what is on, where all that is on counts
pub every_spots : {V E : Type 0} (r : Result V E) (view : V → List SpotText) (b : BuildText) (on : PairVisit) (spots : List SpotText) → on ≡ b.plan.on → is_every b.judged ≡ true
    → IfOk r (λ v. view v ≡ filter (passes on Everywhere) spots) → IfOk r (λ v. view v ≡ filter (counts b) spots)
every_spots (Ok v) view b on spots visit every e = e ∙ ap (λ (o : PairVisit). filter (passes o Everywhere) spots) visit ∙ on_count b spots every
every_spots (Err x) view b on spots visit every e = tt

-- the packages that are built
pub among_built : {V E : Type 0} (r : Result V E) (view : V → List ℕ) (b : BuildText) (parts : BuiltParts) (numbers : List ℕ) → builds_in parts ≡ is_built b.split b.plan.units
    → IfOk r (λ v. view v ≡ filter (builds_anywhere parts) numbers) → IfOk r (λ v. view v ≡ filter (is_built_anywhere b) numbers)
among_built (Ok v) view b parts numbers same e = e ∙ ap (λ (f : Side → ℕ → Bool). filter (λ p. f Target p || f Host p) numbers) same
among_built (Err x) view b parts numbers same e = tt
