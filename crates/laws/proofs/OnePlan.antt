-- A workspace and a selection have one plan: all that a step takes from a visit is which labels it reaches.
use Rattle.std.proofs.Common.{◌≡◌, ℕ, zero, suc, ◌+◌, List, [], ◌∷◌, ◌++◌, Bool, true, false, Option, None, Some, Result, Ok, length, map, refl, ap, ap₂, sym, ◌∙◌, subst, if◌then◌else◌}
use Rattle.std.specs.Prelude.{◌&&◌, ◌||◌, filter, nat_lt, not}
use Rattle.std.specs.List.{list_all, list_any}
use Rattle.std.specs.Option.{is_some, option_map_or}
use Rattle.std.specs.Str.{bytes_eq}
use Rattle.guppy_packages.specs.Items.{slash_item, item_of}
use Rattle.guppy_packages.specs.Rows.{RowText}
use Rattle.feature_labels.specs.Names.{LabelName}
use Rattle.feature_labels.specs.Names.LabelName.{base, named, optional}
use Rattle.cargo_workspaces.specs.Workspaces.{DeclarationText, PackageText, TargetText, Text, WorkspaceText, both_lead_to}
use Rattle.plan_rows.specs.Commands.{is_started}
use Rattle.plan_rows.specs.Steps.{SettingsText, built_entries, is_development, is_host, lands, on_entries, resolved_entries, side_of}
use Rattle.plan_rows.specs.Tables.{each_from, flag_at, rows_of}
use Rattle.plan_rows.specs.declared.side.Side.{Side}
use Rattle.plan_rows.specs.declared.side.Side.TheVariants.{Target}
use Rattle.cargo_plans.specs.plan_starts.Lists.{first_from, joined_from}
use Rattle.cargo_plans.specs.plan_starts.PackageVisits.{PairVisit, first_entry, is_kept, reaches_at}
use Rattle.cargo_plans.specs.plan_starts.Starts.{Starts, dev_flags, is_among, start_places, starts_of, starts_on_host}
use Rattle.cargo_plans.specs.plan_starts.Targets.{counts, has_macro, is_start}
use Rattle.plan_words.specs.TargetChoices.{is_by_name, is_chosen}
use Rattle.cargo_plans.specs.plan_units.Commands.{on_starts, resolved_starts}
use Rattle.cargo_plans.specs.plan_units.Units.{UnitText, target_units, units_at, units_of}
use Rattle.cargo_plans.specs.declared.plan_units.unit.Place.{Place}
use Rattle.cargo_plans.specs.declared.plan_units.unit.Place.TheVariants as spot
use Rattle.plan_words.specs.Choices.{ChosenText}
use Rattle.plan_words.specs.Refusals.{Refusal}
use Rattle.plan_starts.specs.step_visits.Visits.{IsVisitOf, Visit, reaches}
use Rattle.cargo_plans.specs.plan_steps.Plans.{IsBuiltFrom, IsOn, IsPlan, IsResolved, starts_by, turned_on}
use Rattle.cargo_plans.specs.Plans.{settings_by}
use Rattle.laws.specs.plans.Laws.{OnePlan, OnePlanOfWords}

-- all visits of the same rows from the same starts reach the same labels
abbrev pub VisitsAgree : Type 0
VisitsAgree = (rows : List RowText) (starts : List (ℕ × LabelName)) (u v : Visit) → IsVisitOf rows starts u → IsVisitOf rows starts v → (k : ℕ) (label : LabelName) → reaches u k label ≡ reaches v k label

-- Which labels of a package a visit reaches, at its first entry and at its second.
abbrev pub Test : Type 0
Test = Bool → ℕ → LabelName → Bool

same_test : (n : ℕ) (u v : PairVisit) → u.count ≡ n → v.count ≡ n → ((k : ℕ) (label : LabelName) → reaches u.visit k label ≡ reaches v.visit k label) → ◌≡◌ {A = Test} (reaches_at u) (reaches_at v)
same_test n u v a b alike = λ i second p label. nat_lt p (counts i) && alike (first_entry second (counts i) + p) label i
  where
    counts : u.count ≡ v.count
    counts = a ∙ sym b

-- The definitions of plans over such tests.

abbrev kept_by : Test → ℕ → Text → Bool
kept_by kept p name = kept false p (optional name) || kept true p (optional name)

abbrev pub on_by : Test → Side → ℕ → LabelName → Bool
on_by on side p label = on (is_host side) p label

abbrev pub turned_by : Test → Side → ℕ → Text → Bool
turned_by on side p name = on_by on side p (optional name)

module _ (s : SettingsText) (packages : List PackageText) (selected : List ℕ) (kept on : Test) where
  abbrev followed : ℕ → DeclarationText → Bool
  followed p d = is_some d.leads_to && (not (is_development d.kind) || is_started s.commands p) && (not d.optional || kept_by kept p d.name)

  abbrev leads : Text → DeclarationText → Bool
  leads feature d = option_map_or (λ q. on_by on (lands s.split d (has_macro packages q) Target) q (named feature)) d.leads_to false

  abbrev called : ℕ → Text → DeclarationText → Bool
  called p name d = bytes_eq d.name name && followed p d

  abbrev counting : ℕ → Text → List DeclarationText → Option ℕ → Bool
  counting p name ds to = list_any (λ d. called p name d && counts s d && both_lead_to to d.leads_to) ds

  abbrev met : ℕ → PackageText → Text → Bool
  met p x need = elim (item_of need) [
    | slash_item name feature weak ↦ list_any (λ d. called p name d && leads feature d && counting p name x.declarations d.leads_to) x.declarations
    | _ ↦ on_by on Target p (named need)
  ]

  abbrev is_built_by : ℕ → PackageText → TargetText → Bool
  is_built_by p x t = is_chosen s.choice t && list_all (met p x) t.required_features

  abbrev started_by : Bool → Bool → List Bool
  started_by dev macros = each_from (λ p x. is_among selected p && list_any (λ t. is_start s.choice dev macros t && is_built_by p x t) x.targets) 0 packages

  abbrev unmet_by : Option (ℕ × ℕ)
  unmet_by = first_from (λ p x. if is_among selected p then first_from (λ k t. if is_by_name s.choice t && not (list_all (met p x) t.required_features) then Some (p, k) else None) 0 x.targets else None) 0 packages

  abbrev starts_from : Starts
  starts_from = record {
    macros = started_by false true;
    others = started_by false false;
    hosts = each_from (starts_on_host (started_by false true) (started_by false false)) 0 packages;
    dev_macros = started_by true true;
    dev_others = started_by true false;
    unmet = unmet_by;
  }

pub same_starts : (s : SettingsText) (packages : List PackageText) (selected : List ℕ) (k j o m : PairVisit) → ◌≡◌ {A = Test} (reaches_at k) (reaches_at j) → ◌≡◌ {A = Test} (reaches_at o) (reaches_at m)
    → starts_of (record { settings = s; packages = packages; kept = k; on = o }) selected ≡ starts_of (record { settings = s; packages = packages; kept = j; on = m }) selected
same_starts s packages selected k j o m a b = ap₂ (λ kept on. starts_from s packages selected kept on) a b

abbrev units_by : Test → (ℕ → LabelName → Bool) → Place → Side → ℕ → List PackageText → List UnitText
units_by on built place side first packages =
    joined_from (λ p x. if built (first + p) base then record { place = place; number = p; features = map (λ f. f.name) (filter (λ f. on_by on side p (named f.name)) x.features) } ∷ [] else []) 0 packages

module _ (o m : PairVisit) (u v : Visit) (on : ◌≡◌ {A = Test} (reaches_at o) (reaches_at m)) (built : ◌≡◌ {A = ℕ → LabelName → Bool} (reaches u) (reaches v)) (packages : List PackageText) where
  same_at : (place : Place) (side : Side) (first : ℕ) → units_at o u place side first packages ≡ units_at m v place side first packages
  same_at place side first = ap₂ (λ a b. units_by a b place side first packages) on built

  same_targets : (k first n : ℕ) → target_units o u packages k first n ≡ target_units m v packages k first n
  same_targets k first zero = refl
  same_targets k first (suc n) = ap₂ (λ xs ys. xs ++ ys) (same_at (spot.Target k) Target first) (same_targets (k + 1) (first + length packages) n)

  pub same_units : (split : Bool) (n : ℕ) → units_of split o u packages n ≡ units_of split m v packages n
  same_units split n = ap₂ (λ xs ys. xs ++ ys) (same_at spot.Host (side_of split true) 0) (same_targets 0 (length packages) n)

-- The steps of two plans.

pub resolved_is : (w : WorkspaceText) (s : SettingsText) (kept : PairVisit) → IsResolved w s kept → (kept.count ≡ length w.packages) × IsVisitOf (rows_of (resolved_entries w s)) (resolved_starts w s) kept.visit
unfolding IsResolved
resolved_is w s kept h = h

pub on_is : (w : WorkspaceText) (s : SettingsText) (kept on : PairVisit) → IsOn w s kept on → (on.count ≡ length w.packages) × IsVisitOf (rows_of (on_entries w s (is_kept kept))) (on_starts w s) on.visit
unfolding IsOn
on_is w s kept on h = h

pub starts_are : (w : WorkspaceText) (s : SettingsText) (selected : List ℕ) (kept on : PairVisit) → starts_by w s selected kept on ≡ starts_of (record { settings = s; packages = w.packages; kept = kept; on = on }) selected
unfolding starts_by
starts_are w s selected kept on = refl

pub built_is : (w : WorkspaceText) (s : SettingsText) (on : PairVisit) (from : Starts) (built : Visit) → IsBuiltFrom w s on from built
    → IsVisitOf (rows_of (built_entries w s (turned_on on) (flag_at (dev_flags (length s.targets) from)))) (start_places (length s.targets) from) built
unfolding IsBuiltFrom
built_is w s on from built h = h

module _ (one : VisitsAgree) (w : WorkspaceText) (s : SettingsText) where
  pub same_kept : (k j : PairVisit) → IsResolved w s k → IsResolved w s j → ◌≡◌ {A = Test} (reaches_at k) (reaches_at j)
  same_kept k j a b =
      let x = resolved_is w s k a in
      let y = resolved_is w s j b in
      same_test (length w.packages) k j x.0 y.0 (one (rows_of (resolved_entries w s)) (resolved_starts w s) k.visit j.visit x.1 y.1)

  pub same_on : (k j o m : PairVisit) → ◌≡◌ {A = Test} (reaches_at k) (reaches_at j) → IsOn w s k o → IsOn w s j m → ◌≡◌ {A = Test} (reaches_at o) (reaches_at m)
  same_on k j o m kept a b =
      let x = on_is w s k o a in
      let y = on_is w s j m b in
      let back : ◌≡◌ {A = ℕ → Text → Bool} (is_kept j) (is_kept k) = ap kept_by (sym kept) in
      same_test (length w.packages) o m x.0 y.0
      (one (rows_of (on_entries w s (is_kept k))) (on_starts w s) o.visit m.visit x.1 (subst (λ z. IsVisitOf (rows_of (on_entries w s z)) (on_starts w s) m.visit) back y.1))

  same_built : (o m : PairVisit) (f g : Starts) (u v : Visit) → ◌≡◌ {A = Test} (reaches_at o) (reaches_at m) → f ≡ g → IsBuiltFrom w s o f u → IsBuiltFrom w s m g v → ◌≡◌ {A = ℕ → LabelName → Bool} (reaches u) (reaches v)
  same_built o m f g u v on from a b =
      let targets = length s.targets in
      let Visits : (Side → ℕ → Text → Bool) → Starts → Type 0 = λ t z. IsVisitOf (rows_of (built_entries w s t (flag_at (dev_flags targets z)))) (start_places targets z) v in
      let back : ◌≡◌ {A = Side → ℕ → Text → Bool} (turned_on m) (turned_on o) = ap turned_by (sym on) in
      let moved = subst (λ t. Visits t f) back (subst (λ z. Visits (turned_on m) z) (sym from) (built_is w s m g v b)) in
      let alike = one (rows_of (built_entries w s (turned_on o) (flag_at (dev_flags targets f)))) (start_places targets f) u v (built_is w s o f u a) moved in
      λ i k label. alike k label i

pub one_plan : VisitsAgree → OnePlan
one_plan one w s selected p q a b =
    let kept = same_kept one w s a.kept b.kept a.is_resolved b.is_resolved in
    let on = same_on one w s a.kept b.kept a.on b.on kept a.is_turned_on b.is_turned_on in
    let from = starts_are w s selected a.kept a.on ∙ same_starts s w.packages selected a.kept b.kept a.on b.on kept on ∙ sym (starts_are w s selected b.kept b.on) in
    let x = a.holds.2 in
    let y = b.holds.2 in
    let built = same_built one w s a.on b.on (starts_by w s selected a.kept a.on) (starts_by w s selected b.kept b.on) p.built q.built on from x.is_built y.is_built in
    x.are_units ∙ same_units a.on b.on p.built q.built on built w.packages s.split (length s.targets) ∙ sym y.are_units

same_chosen : (c d : ChosenText) → ◌≡◌ {A = Result ChosenText Refusal} (Ok c) (Ok d) → c ≡ d
same_chosen c d h = cc

pub one_plan_of_words : VisitsAgree → OnePlanOfWords
one_plan_of_words one w words p q a b =
    let same : b.chosen ≡ a.chosen = same_chosen b.chosen a.chosen (sym b.are_accepted ∙ a.are_accepted) in
    let other : IsPlan w (settings_by words a.chosen) a.chosen.selected q = subst (λ (c : ChosenText). IsPlan w (settings_by words c) c.selected q) same b.holds in
    one_plan one w (settings_by words a.chosen) a.chosen.selected p q a.holds other
