-- Spots of packages that are marked.
use Rattle.std.proofs.Common.{◌≡◌, ℕ, ◌<◌, List, [], ◌∷◌, Bool, true, false, cond, ◌&&◌, refl, ap, subst, ◌∙◌, filter}
use Rattle.std.specs.Prelude.{Result, Ok, Err, IfOk, nat_eq, nat_lt}
use Rattle.std.specs.Borrow.{Bor}
use Rattle.std.specs.List.{list_any}
use Rattle.std.proofs.lemmas.Bool.{ltb-true}
use Rattle.feature_labels.specs.Names.{LabelName}
use Rattle.plan_rows.specs.declared.side.Side.{Side}
use Rattle.plan_rows.specs.declared.side.Side.TheVariants.{Host, Target}
use Rattle.cargo_plans.specs.plan_starts.PackageVisits.{PairVisit, is_on}
use Rattle.plan_whys.specs.Steps.{SpotText}
use Rattle.feats_policies.specs.checks.Builds.{BuildText, built_for}
use Rattle.feats_policies.specs.checks.Spots.{is_spot_on, is_spot_on_for}
use Rattle.feats_policies.specs.declared.checks.on_spots.Scope.TheVariants.{Marked}
use Rattle.feats_policies.specs.checks.inner.Marks.{Marks}
use Rattle.feats_policies.specs.checks.inner.Scopes.{is_marked, passes}

-- tests that agree keep the same
filter_same : {X : Type 0} (p q : X → Bool) → ((x : X) → p x ≡ q x) → (xs : List X) → filter p xs ≡ filter q xs
filter_same p q h [] = refl
filter_same p q h (x ∷ xs) = ap (λ b. cond b (x ∷ filter p xs) (filter p xs)) (h x) ∙ ap (λ l. cond (q x) (x ∷ l) l) (filter_same p q h xs)

-- what is on is a package of the visit
within : (on : PairVisit) (side : Side) (k : ℕ) (label : LabelName) → is_on on side k label ≡ true → k < on.count
within on side k label h = ltb-true k on.count (first (nat_lt k on.count) _ h)
  where
    first : (a b : Bool) → (a && b) ≡ true → a ≡ true
    first true b h = refl
    first false b h = cc

marked_at : (b : BuildText) (triple : List ℕ) (target host : List Bool) (s : SpotText) → Marks b.plan.on.count target (built_for b triple Target) → Marks b.plan.on.count host (built_for b triple Host)
    → s.number < b.plan.on.count → is_marked target host s ≡ list_any (nat_eq s.number) (built_for b triple s.side)
marked_at b triple target host s t h less = go s.side
  where
    go : (side : Side) → is_marked target host (record { side = side; number = s.number; label = s.label }) ≡ list_any (nat_eq s.number) (built_for b triple side)
    go Target = t.at s.number less
    go Host = h.at s.number less

passes_is : (b : BuildText) (triple : List ℕ) (target host : List Bool) → Marks b.plan.on.count target (built_for b triple Target) → Marks b.plan.on.count host (built_for b triple Host)
    → (s : SpotText) → (is_spot_on b s && is_marked target host s) ≡ is_spot_on_for b triple s
passes_is b triple target host t h s = go (is_spot_on b s) refl
  where
    go : (on : Bool) → is_spot_on b s ≡ on → (on && is_marked target host s) ≡ (on && list_any (nat_eq s.number) (built_for b triple s.side))
    go true e = marked_at b triple target host s t h (within b.plan.on s.side s.number s.label e)
    go false e = refl

-- the spots that pass by marks are those that are on for the platform
marked_spots : (b : BuildText) (triple : List ℕ) (target host : List Bool) (spots : List SpotText) → Marks b.plan.on.count target (built_for b triple Target) → Marks b.plan.on.count host (built_for b triple Host)
    → filter (λ (s : SpotText). is_spot_on b s && is_marked target host s) spots ≡ filter (is_spot_on_for b triple) spots
marked_spots b triple target host spots t h = filter_same _ _ (passes_is b triple target host t h) spots

-- and so are those of a call
pub for_platform : {V E : Type 0} (r : Result V E) (view : V → List SpotText) (b : BuildText) (triple : List ℕ) (on : PairVisit) (count : ℕ) (t h : Bor (List Bool)) (target host : List Bool) (spots : List SpotText)
    → on ≡ b.plan.on → count ≡ on.count → t.now ≡ target → h.now ≡ host → Marks count target (built_for b triple Target) → Marks count host (built_for b triple Host)
    → IfOk r (λ v. view v ≡ filter (passes on (Marked t h)) spots) → IfOk r (λ v. view v ≡ filter (is_spot_on_for b triple) spots)
for_platform (Ok v) view b triple on count t h target host spots is_on counts is_t is_h marks_t marks_h e =
    let same : count ≡ b.plan.on.count = counts ∙ ap (λ (o : PairVisit). o.count) is_on in
    e
    ∙ ap (λ (o : PairVisit). filter (passes o (Marked t h)) spots) is_on
    ∙ ap (λ (l : List Bool). filter (λ (s : SpotText). is_spot_on b s && is_marked l h.now s) spots) is_t
    ∙ ap (λ (l : List Bool). filter (λ (s : SpotText). is_spot_on b s && is_marked target l s) spots) is_h
    ∙ marked_spots b triple target host spots (subst (λ (n : ℕ). Marks n target (built_for b triple Target)) same marks_t) (subst (λ (n : ℕ). Marks n host (built_for b triple Host)) same marks_h)
for_platform (Err x) view b triple on count t h target host spots is_on counts is_t is_h marks_t marks_h e = tt
