-- More features and more packages turn nothing off.
use Rattle.std.proofs.Common.{◌≡◌, ⊎_elim, ℕ, zero, suc, ◌+◌, List, [], ◌∷◌, ◌++◌, Bool, true, Option, length, refl, ap, sym, subst, if◌then◌else◌}
use Rattle.std.specs.Prelude.{Contains, filter}
use Rattle.std.proofs.lemmas.List.Elements.{Contains-append_cases, Contains-append_left, Contains-append_right}
use Rattle.feature_labels.specs.Names.{LabelName}
use Rattle.feature_labels.specs.Names.LabelName.{base, named, optional}
use Rattle.cargo_workspaces.specs.Workspaces.{FeatureText, IsWorkspace, PackageText, Text, WorkspaceText}
use Rattle.feature_core.proofs.AddsLemmas.{Contains-first, Contains-none}
use Rattle.feature_core.proofs.PushLemmas.{from_filter, from_map, into_filter, into_map}
use Rattle.plan_rows.specs.Steps.{SettingsText, built_entries, side_of}
use Rattle.plan_rows.specs.Tables.{flag_at, rows_of}
use Rattle.plan_rows.specs.declared.side.Side.{Side}
use Rattle.plan_rows.specs.declared.side.Side.TheVariants.{Target}
use Rattle.cargo_plans.specs.plan_starts.PackageVisits.{PairVisit, is_on}
use Rattle.cargo_plans.specs.plan_starts.Starts.{Starts, dev_flags, start_places, starts_of}
use Rattle.cargo_plans.specs.plan_starts.Targets.{TargetRules}
use Rattle.cargo_plans.specs.plan_units.Units.{UnitText, features_on, target_units, units_at, units_of}
use Rattle.cargo_plans.specs.declared.plan_units.unit.Place.{Place}
use Rattle.cargo_plans.specs.declared.plan_units.unit.Place.TheVariants as spot
use Rattle.plan_starts.specs.step_visits.Visits.{IsVisitOf, Visit, reaches}
use Rattle.cargo_plans.specs.plan_steps.Plans.{starts_by, turned_on}
use Rattle.laws.specs.plans.Growth.{CommandsGrow, MoreTurnsNothingOff, with_commands}
use Rattle.laws.specs.plans.Laws.{AreAmong}
use Rattle.laws.specs.plans.Widening.{SettingsGrow}
use Rattle.laws.proofs.Members.{one_if}
use Rattle.laws.proofs.MoreBuilt.{built_more, built_within, devs_grow, places_grow}
use Rattle.laws.proofs.MoreSteps.{joined_into, kept_grows, on_grows, visit_more}
use Rattle.laws.proofs.Numbered.{joined_back}
use Rattle.laws.proofs.OnePlan.{built_is, starts_are}

-- Units.

-- The unit is in the list, perhaps with more features.
abbrev IsThere : List UnitText → UnitText → Type 0
IsThere units y = (z : UnitText) × Contains units z × (z.place ≡ y.place) × (z.number ≡ y.number) × ((f : Text) → Contains y.features f → Contains z.features f)

there_left : (xs ys : List UnitText) (y : UnitText) → IsThere xs y → IsThere (xs ++ ys) y
there_left xs ys y r = (r.0, Contains-append_left xs ys r.0 r.1, r.2, r.3, r.4)

there_right : (xs ys : List UnitText) (y : UnitText) → IsThere ys y → IsThere (xs ++ ys) y
there_right xs ys y r = (r.0, Contains-append_right xs ys r.0 r.1, r.2, r.3, r.4)

module _ (o l : PairVisit) (u v : Visit) (on_all : (side : Side) (p : ℕ) (label : LabelName) → is_on o side p label ≡ true → is_on l side p label ≡ true) (reached : (k : ℕ) → reaches u k base ≡ true → reaches v k base ≡ true) (packages : List PackageText) where
  features_there : (side : Side) (p : ℕ) (x : PackageText) (f : Text) → Contains (features_on o side p x) f → Contains (features_on l side p x) f
  features_there side p x f h =
      let m = from_map (λ (g : FeatureText). g.name) (filter (λ g. is_on o side p (named g.name)) x.features) f h in
      let k = from_filter (λ (g : FeatureText). is_on o side p (named g.name)) x.features m.0 m.1 in
      subst (λ z. Contains (features_on l side p x) z) m.2
      (into_map (λ (g : FeatureText). g.name) (filter (λ g. is_on l side p (named g.name)) x.features) m.0 (into_filter (λ (g : FeatureText). is_on l side p (named g.name)) x.features m.0 k.0 (on_all side p (named m.0.name) k.1)))

  at_there : (place : Place) (side : Side) (first : ℕ) (y : UnitText) → Contains (units_at o u place side first packages) y → IsThere (units_at l v place side first packages) y
  at_there place side first y h =
      let small : ℕ → PackageText → UnitText = λ p x. record { place = place; number = p; features = features_on o side p x } in
      let large : ℕ → PackageText → UnitText = λ p x. record { place = place; number = p; features = features_on l side p x } in
      let j = joined_back (λ p x. if reaches u (first + p) base then small p x ∷ [] else []) 0 packages y h in
      let n = 0 + j.place in
      let one = one_if (reaches u (first + n) base) (small n j.item) y j.member in
      let there = reached (first + n) one.0 in (
        large n j.item,
        joined_into (λ p x. if reaches v (first + p) base then large p x ∷ [] else []) 0 packages j.place j.item (large n j.item) j.there
            (subst (λ b. Contains (if b then large n j.item ∷ [] else []) (large n j.item)) (sym there) (Contains-first (large n j.item) [])),
        ap (λ (z : UnitText). z.place) one.1,
        ap (λ (z : UnitText). z.number) one.1,
        λ f i. features_there side n j.item f (subst (λ (z : UnitText). Contains z.features f) (sym one.1) i),
      )

  targets_there : (k first n : ℕ) (y : UnitText) → Contains (target_units o u packages k first n) y → IsThere (target_units l v packages k first n) y
  targets_there k first zero y h = absurd (Contains-none y h)
  targets_there k first (suc n) y h = ⊎_elim
      (λ i. there_left (units_at l v (spot.Target k) Target first packages) (target_units l v packages (k + 1) (first + length packages) n) y (at_there (spot.Target k) Target first y i))
      (λ i. there_right (units_at l v (spot.Target k) Target first packages) (target_units l v packages (k + 1) (first + length packages) n) y (targets_there (k + 1) (first + length packages) n y i))
      (Contains-append_cases (units_at o u (spot.Target k) Target first packages) (target_units o u packages (k + 1) (first + length packages) n) y h)

  units_there : (split : Bool) (n : ℕ) (y : UnitText) → Contains (units_of split o u packages n) y → IsThere (units_of split l v packages n) y
  units_there split n y h = ⊎_elim
      (λ i. there_left (units_at l v spot.Host (side_of split true) 0 packages) (target_units l v packages 0 (length packages) n) y (at_there spot.Host (side_of split true) 0 y i))
      (λ i. there_right (units_at l v spot.Host (side_of split true) 0 packages) (target_units l v packages 0 (length packages) n) y (targets_there 0 (length packages) n y i))
      (Contains-append_cases (units_at o u spot.Host (side_of split true) 0 packages) (target_units o u packages 0 (length packages) n) y h)

-- Plans.

module _ (w : WorkspaceText) (is : IsWorkspace w) (s : SettingsText) (commands : List (Option FeatureText)) (grow : CommandsGrow s.commands commands) where
  abbrev more : SettingsText
  more = with_commands s commands

  pub commands_alone : SettingsGrow w s more
  commands_alone = record { split = refl; development = λ h. h; commands = grow; host = λ x c d i h. h; targets = λ x c d i h. h }

  built_reached : (o l : PairVisit) (f g : Starts) (u v : Visit) → ((side : Side) (p : ℕ) (name : Text) → turned_on o side p name ≡ true → turned_on l side p name ≡ true)
      → ((m : ℕ) → flag_at (dev_flags (length s.targets) f) m ≡ true → flag_at (dev_flags (length s.targets) g) m ≡ true) → AreAmong (start_places (length s.targets) f) (start_places (length s.targets) g)
      → IsVisitOf (rows_of (built_entries w s (turned_on o) (flag_at (dev_flags (length s.targets) f)))) (start_places (length s.targets) f) u
      → IsVisitOf (rows_of (built_entries w more (turned_on l) (flag_at (dev_flags (length s.targets) g)))) (start_places (length s.targets) g) v
      → (k : ℕ) → reaches u k base ≡ true → reaches v k base ≡ true
  built_reached o l f g u v turned devs among a b k =
      let dev = flag_at (dev_flags (length s.targets) f) in
      let other = flag_at (dev_flags (length s.targets) g) in
      visit_more (built_entries w s (turned_on o) dev) (built_entries w more (turned_on l) other) (built_within w is s (turned_on o) dev) (built_within w is more (turned_on l) other)
      (built_more w is s commands (turned_on o) (turned_on l) turned dev other devs) (start_places (length s.targets) f) (start_places (length s.targets) g) among u v a b k base

pub more_turns_nothing_off : MoreTurnsNothingOff
more_turns_nothing_off w s commands selected larger p q is grow among a b u h =
    let more_s = with_commands s commands in
    let n = length s.targets in
    let larger_s = commands_alone w is s commands grow in
    let kept = kept_grows w is s more_s larger_s a.kept b.kept a.is_resolved b.is_resolved in
    let on = on_grows w is s more_s larger_s a.kept b.kept a.is_resolved b.is_resolved a.on b.on a.is_turned_on b.is_turned_on in
    let x = a.holds.2 in
    let y = b.holds.2 in
    let rules : TargetRules = record { settings = s; packages = w.packages; kept = a.kept; on = a.on } in
    let others : TargetRules = record { settings = more_s; packages = w.packages; kept = b.kept; on = b.on } in
    let left = subst (λ z. IsVisitOf (rows_of (built_entries w s (turned_on a.on) (flag_at (dev_flags n z)))) (start_places n z) p.built) (starts_are w s selected a.kept a.on) (built_is w s a.on (starts_by w s selected a.kept a.on) p.built x.is_built) in
    let right = subst (λ z. IsVisitOf (rows_of (built_entries w more_s (turned_on b.on) (flag_at (dev_flags n z)))) (start_places n z) q.built) (starts_are w more_s larger b.kept b.on) (built_is w more_s b.on (starts_by w more_s larger b.kept b.on) q.built y.is_built) in
    let reached = built_reached w is s commands grow a.on b.on (starts_of rules selected) (starts_of others larger) p.built q.built (λ side p name. on side p (optional name))
    (devs_grow w is s commands grow a.kept b.kept a.on b.on kept on selected larger among n) (places_grow w is s commands grow a.kept b.kept a.on b.on kept on selected larger among n) left right in
    let r = units_there a.on b.on p.built q.built on reached w.packages s.split n u (subst (λ z. Contains z u) x.are_units h) in
    (r.0, subst (λ z. Contains z r.0) (sym y.are_units) r.1, r.2, r.3, r.4)
