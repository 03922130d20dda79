-- A deny that is kept where more is on.
use Rattle.std.proofs.Common.{◌≡◌, ℕ, List, [], ◌∷◌, Bool, true, false, cond, ◌&&◌, ◌||◌, refl, ap, sym, subst, ◌∙◌, filter, flat_map, map}
use Rattle.std.specs.Prelude.{IsTrue, nat_eq, slice_get, unwrap_or}
use Rattle.std.specs.List.{Any, list_any}
use Rattle.std.specs.Str.{bytes_eq}
use Rattle.std.proofs.lemmas.List.Folds.{Any-from_list_any, list_any_at}
use Rattle.cargo_workspaces.specs.Workspaces.{IsWorkspace, PackageText, Text, WorkspaceText}
use Rattle.plan_names.specs.Names.{NamedText}
use Rattle.plan_rows.specs.declared.side.Side.{Side}
use Rattle.cargo_plans.specs.plan_units.Units.{UnitText}
use Rattle.cargo_plans.specs.declared.plan_units.unit.Place.{Place}
use Rattle.cargo_plans.specs.declared.plan_units.unit.Place.TheVariants.{Host, Target}
use Rattle.cargo_plans.specs.plan_steps.Plans.{PlanText}
use Rattle.cargo_plans.specs.Plans.{IsPlanOf, WordsText}
use Rattle.laws.specs.plans.Widening.{IsCovered, IsOnIn, IsWidest, WidestTurnsAllOn}
use Rattle.feats_policies.specs.plan_whys.Steps.{SpotText}
use Rattle.feats_policies.specs.checks.Builds.{BuildText, built_for, has_side, is_built_for, is_built_on, is_every, is_platform, triple_of}
use Rattle.feats_policies.specs.checks.Found.{denied, denied_at, denied_for, denied_on, kept, no_platform, of_meaning}
use Rattle.feats_policies.specs.checks.Meanings.{MeaningText, meaning_among, meaning_in, one_of, these}
use Rattle.feats_policies.specs.checks.Spots.{counts, is_spot_on, is_spot_on_for, on_both_sides, spots_on, spots_on_for}
use Rattle.laws.specs.plans.EveryChoice.{AreBuilds, HasNoMoreBuilt, HasNoMoreOn, NoChoiceBreaksDeny, NoChoiceBreaksDenyForPlatform}

-- a test that passes less keeps nothing where the other keeps nothing
filter_less : {X : Type 0} (p q : X → Bool) → ((x : X) → p x ≡ true → q x ≡ true) → (xs : List X) → filter q xs ≡ [] → filter p xs ≡ []
filter_less p q h [] e = refl
filter_less p q h (x ∷ xs) e = go (p x) (q x) (h x) (filter_less p q h xs) e
  where
    go : (a b : Bool) → (a ≡ true → b ≡ true) → (filter q xs ≡ [] → filter p xs ≡ []) → cond b (x ∷ filter q xs) (filter q xs) ≡ [] → cond a (x ∷ filter p xs) (filter p xs) ≡ []
    go a true k more e = cc
    go true false k more e = let clash : false ≡ true = k refl in cc
    go false false k more e = more e

none_at : (spots : List SpotText) → denied_at spots ≡ kept → spots ≡ []
none_at [] e = refl
none_at (s ∷ spots) e = cc

-- what is found of a word, by spots of which there are fewer
fewer : (f g : List NamedText → List SpotText) → ((parts : List NamedText) → g parts ≡ [] → f parts ≡ []) → (m n : MeaningText) → m ≡ n
    → of_meaning (λ parts. denied_at (g parts)) m ≡ kept → of_meaning (λ parts. denied_at (f parts)) n ≡ kept
fewer f g h m n same e = go n (sym (ap (of_meaning (λ parts. denied_at (g parts))) same) ∙ e)
  where
    go : (x : MeaningText) → of_meaning (λ parts. denied_at (g parts)) x ≡ kept → of_meaning (λ parts. denied_at (f parts)) x ≡ kept
    go (these parts) e = ap denied_at (h parts (none_at (g parts) e))
    go (one_of word candidates) e = cc

-- a word means the same in both builds
same_meaning : (c b : BuildText) (word : Text) → HasNoMoreOn c b → meaning_in b word ≡ meaning_in c word
same_meaning c b word h = ap (λ (x : List PackageText). meaning_among x b.selected word) (sym h.packages) ∙ ap (λ (x : List ℕ). meaning_among c.packages x word) (sym h.selected)

both : (a b : Bool) → (a && b) ≡ true → (a ≡ true) × (b ≡ true)
both true b h = (refl, h)
both false b h = cc

and_true : {a b : Bool} → a ≡ true → b ≡ true → (a && b) ≡ true
and_true {a} {b} h k = ap (λ x. x && b) h ∙ k

-- what counts is on, and for every choice all that is on counts
counts_on : (c : BuildText) (s : SpotText) → counts c s ≡ true → is_spot_on c s ≡ true
counts_on c s h = (both (is_spot_on c s) _ h).0

on_counts : (b : BuildText) (s : SpotText) → is_every b.judged ≡ true → is_spot_on b s ≡ true → counts b s ≡ true
on_counts b s wide h = and_true h (ap (λ x. x || is_built_on b s.side s.number) wide)

pub stays_kept : (c b : BuildText) (word : Text) → HasNoMoreOn c b → IsTrue (is_every b.judged) → denied b word ≡ kept → denied c word ≡ kept
stays_kept c b word h wide e =
    fewer (spots_on c) (spots_on b) (λ parts none. filter_less (counts c) (counts b) (λ s is. on_counts b s wide (h.on s.side s.number s.label (counts_on c s is))) (flat_map on_both_sides parts) none)
    (meaning_in b word) (meaning_in c word) (same_meaning c b word h) e

-- a number is that of a unit that passes
built_is : (n : ℕ) (f : UnitText → Bool) (units : List UnitText) → list_any (nat_eq n) (map (λ (u : UnitText). u.number) (filter f units)) ≡ list_any (λ (u : UnitText). f u && nat_eq n u.number) units
built_is n f [] = refl
built_is n f (u ∷ units) = go (f u) (built_is n f units)
  where
    rest : List UnitText
    rest = filter f units

    go : (x : Bool) → list_any (nat_eq n) (map (λ (u : UnitText). u.number) rest) ≡ list_any (λ (u : UnitText). f u && nat_eq n u.number) units
        → list_any (nat_eq n) (map (λ (u : UnitText). u.number) (cond x (u ∷ rest) rest)) ≡ (x && nat_eq n u.number) || list_any (λ (u : UnitText). f u && nat_eq n u.number) units
    go true h = ap (λ y. nat_eq n u.number || y) h
    go false h = h

-- What is built for a platform.
module _ (c b : BuildText) (same : HasNoMoreOn c b) (m : HasNoMoreBuilt c b) where
  split_same : (place : Place) (side : Side) → has_side b.split place side ≡ has_side c.split place side
  split_same place side = ap (λ s. has_side s place side) (sym m.split)

  triple_same : (place : Place) → triple_of b place ≡ triple_of c place
  triple_same Host = sym m.host
  triple_same (Target k) = ap (λ (ts : List Text). unwrap_or (slice_get ts k) []) (sym m.targets)

  unit_same : (triple : Text) (side : Side) (u v : UnitText) → v.place ≡ u.place → is_built_for b triple side v ≡ is_built_for c triple side u
  unit_same triple side u v e =
      ap (λ p. has_side b.split p side && bytes_eq triple (triple_of b p)) e
      ∙ ap (λ x. x && bytes_eq triple (triple_of b u.place)) (split_same u.place side)
      ∙ ap (λ (t : Text). has_side c.split u.place side && bytes_eq triple t) (triple_same u.place)

  built_more : (triple : Text) (side : Side) (n : ℕ) → list_any (nat_eq n) (built_for c triple side) ≡ true → list_any (nat_eq n) (built_for b triple side) ≡ true
  built_more triple side n h =
      let test = λ (x : BuildText) (u : UnitText). is_built_for x triple side u && nat_eq n u.number in
      let a : Any (λ u. test c u ≡ true) c.plan.units = Any-from_list_any (test c) c.plan.units (sym (built_is n (is_built_for c triple side) c.plan.units) ∙ h) in
      let v = m.units a.1 (a.0, a.2, a.3) in
      let passes : test b v.0 ≡ true = ap (λ x. x && nat_eq n v.0.number) (unit_same triple side a.1 v.0 v.2) ∙ ap (λ k. is_built_for c triple side a.1 && nat_eq n k) v.3 ∙ a.4 in
      built_is n (is_built_for b triple side) b.plan.units ∙ list_any_at (test b) b.plan.units v.1.0 v.0 v.1.1 (ap (test b) v.1.2 ∙ passes)

  on_more : (triple : Text) (s : SpotText) → is_spot_on_for c triple s ≡ true → is_spot_on_for b triple s ≡ true
  on_more triple s h = let r = both (is_spot_on c s) _ h in and_true (same.on s.side s.number s.label r.0) (built_more triple s.side s.number r.1)

  platform_same : (triple : Text) → is_platform c triple ≡ is_platform b triple
  platform_same triple = ap (λ (t : Text). bytes_eq triple t || list_any (bytes_eq triple) c.targets) m.host ∙ ap (λ (ts : List Text). bytes_eq triple b.host || list_any (bytes_eq triple) ts) m.targets

  pub stays_kept_on : (word triple : Text) → denied_on b word triple ≡ kept → denied_on c word triple ≡ kept
  stays_kept_on word triple e = go (is_platform b triple) (is_platform c triple) (platform_same triple) e
    where
      go : (p q : Bool) → q ≡ p → cond p (denied_for b word triple) (no_platform triple) ≡ kept → cond q (denied_for c word triple) (no_platform triple) ≡ kept
      go true true k e =
          fewer (spots_on_for c triple) (spots_on_for b triple) (λ parts none. filter_less (is_spot_on_for c triple) (is_spot_on_for b triple) (on_more triple) (flat_map on_both_sides parts) none)
          (meaning_in b word) (meaning_in c word) (same_meaning c b word same) e
      go true false k e = cc
      go false q k e = cc

-- The widest words.
no_more : (w : WorkspaceText) (words widest : WordsText) (p q : PlanText) → WidestTurnsAllOn → IsWorkspace w → IsWidest w widest → IsCovered w words widest → IsPlanOf w words p → IsPlanOf w widest q
    → (c b : BuildText) → AreBuilds w c b p q → HasNoMoreOn c b
no_more w words widest p q law is wide covered small large c b builds = record {
  packages = builds.first_packages ∙ sym builds.second_packages;
  selected = builds.selected;
  on = subst (λ z. IsOnIn z b.plan) (sym builds.first) (subst (λ z. IsOnIn p z) (sym builds.second) (law w words widest p q is wide covered small large));
}

pub no_choice : WidestTurnsAllOn → NoChoiceBreaksDeny
no_choice law w words widest p q is wide covered small large c b builds word e = stays_kept c b word (no_more w words widest p q law is wide covered small large c b builds) builds.is_every e

-- what no choice breaks is kept for a platform
fewer_for : (c b : BuildText) (word triple : Text) → HasNoMoreOn c b → IsTrue (is_every b.judged) → is_platform c triple ≡ true → denied b word ≡ kept → denied_on c word triple ≡ kept
fewer_for c b word triple h wide known e =
    ap (λ x. cond x (denied_for c word triple) (no_platform triple)) known
    ∙ fewer (spots_on_for c triple) (spots_on b)
    (λ parts none. filter_less (is_spot_on_for c triple) (counts b) (λ s is. on_counts b s wide (h.on s.side s.number s.label (both (is_spot_on c s) _ is).0)) (flat_map on_both_sides parts) none)
    (meaning_in b word) (meaning_in c word) (same_meaning c b word h) e

pub no_choice_on : WidestTurnsAllOn → NoChoiceBreaksDenyForPlatform
no_choice_on law w words widest p q is wide covered small large c b builds word triple known e =
    fewer_for c b word triple (no_more w words widest p q law is wide covered small large c b builds) builds.is_every known e
