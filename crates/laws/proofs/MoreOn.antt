-- The entries of step `on`, for larger settings and more that is kept.
use Rattle.std.proofs.Common.{◌≡◌, ⊎_elim, ℕ, ◌+◌, ◌*◌, ◌<◌, List, [], ◌++◌, Bool, true, false, not, Option, None, Some, length, refl, ap, sym, ◌∙◌, subst, arith, length-append, if◌then◌else◌}
use Rattle.std.specs.Prelude.{◌%◌, ◌&&◌, ◌||◌, Contains, slice_get}
use Rattle.std.proofs.lemmas.List.{append-nil, length-map}
use Rattle.std.proofs.lemmas.List.Elements.{Contains-append_cases, Contains-append_left, Contains-append_right}
use Rattle.std.proofs.lemmas.Nat.{mod-mul-add}
use Rattle.cargo_workspaces.specs.Workspaces.{DeclarationText, FeatureText, IsPackage, IsWorkspace, PackageText, Text, WorkspaceText, is_proc_macro}
use Rattle.feature_core.proofs.AddsLemmas.{Contains-cases, Contains-first, Contains-none, element_at_place}
use Rattle.feature_core.proofs.Places.{get_cases, get_left, get_right}
use Rattle.plan_words.specs.TargetChoices.{needs_development}
use Rattle.plan_rows.specs.Commands.{command_of, is_started}
use Rattle.plan_rows.specs.Steps as steps
use Rattle.plan_rows.specs.Steps.{SettingsText}
use Rattle.plan_rows.specs.Tables.{Dependency, Entry, flag_at}
use Rattle.plan_rows.specs.declared.side.Side.{Side}
use Rattle.plan_rows.specs.declared.side.Side.TheVariants.{Target, Host}
use Rattle.plan_rows.proofs.EntryLemmas.{length-each_from}
use Rattle.plan_rows.proofs.EntryRules.{number_is}
use Rattle.laws.specs.plans.Growth.{CommandsGrow}
use Rattle.laws.specs.plans.Widening.{SettingsGrow}
use Rattle.laws.proofs.BuiltStep.{all_place}
use Rattle.laws.proofs.EntryGrowth.{HasOneName, HaveMore, IsMoreEntry}
use Rattle.laws.proofs.EntryLinks.{AreWithin}
use Rattle.laws.proofs.Members.{both_true}
use Rattle.laws.proofs.MoreEntries.{below, deps_more, each_there, everywhere, number_more, one_named, started_more, two_true}
use Rattle.laws.proofs.Numbered.{each_back}

zero_plus : (n : ℕ) → 0 + n ≡ n
zero_plus n = omega arith

pub or_more : (a b c : Bool) → (b ≡ true → c ≡ true) → (a || b) ≡ true → (a || c) ≡ true
or_more true b c more h = refl
or_more false b c more h = more h

pub either_more : (a b c d : Bool) → (a ≡ true → c ≡ true) → (b ≡ true → d ≡ true) → (a || b) ≡ true → (c || d) ≡ true
either_more true b c d f g h = let e = f refl in rw e refl
either_more false b c d f g h = or_more c d d (λ x. x) (right c d (g h))
  where
    right : (p q : Bool) → q ≡ true → (p || q) ≡ true
    right true q e = refl
    right false q e = e

and_more : (a b c d : Bool) → (a ≡ true → b ≡ true) → (c ≡ true → d ≡ true) → (a && c) ≡ true → (b && d) ≡ true
and_more a b c d f g h = let parts = both_true a c h in two_true b d (f parts.0) (g parts.1)

-- a command feature is there with all its items
command_there : (commands others : List (Option FeatureText)) → CommandsGrow commands others → (p : ℕ) (x : FeatureText) → Contains (steps.command_list (command_of commands p)) x → (y : FeatureText) × Contains (steps.command_list (command_of others p)) y × (y.name ≡ x.name) × ((i : Text) → Contains x.items i → Contains y.items i)
command_there commands others grow p x h = go (command_of commands p) refl h
  where
    go : (o : Option FeatureText) → command_of commands p ≡ o → Contains (steps.command_list o) x → (y : FeatureText) × Contains (steps.command_list (command_of others p)) y × (y.name ≡ x.name) × ((i : Text) → Contains x.items i → Contains y.items i)
    go None e i = absurd (Contains-none x i)
    go (Some f) e i =
        let g = grow p f e in
        let same : f ≡ x = ⊎_elim (λ z. z) (λ z. absurd (Contains-none x z)) (Contains-cases f [] x i) in (
          g.0,
          subst (λ o. Contains (steps.command_list o) g.0) (sym g.1) (Contains-first g.0 []),
          g.2 ∙ ap (λ (z : FeatureText). z.name) same,
          λ j k. g.3 j (subst (λ (z : FeatureText). Contains z.items j) (sym same) k),
        )

module _ (w : WorkspaceText) (is : IsWorkspace w) where
  abbrev count : ℕ
  count = length w.packages

  abbrev macros : List Bool
  macros = steps.macros_of w.packages

  macros_long : length macros ≡ count
  macros_long = length-map w.packages is_proc_macro

  at_side : (side : Side) (q : ℕ) → q < count → (steps.side_base count side + q < count + count) × ((steps.side_base count side + q) % count ≡ q)
  at_side Target q less =
      let inside : 0 + q < count + count = omega arith in
      let first : 0 + q ≡ 0 * count + q = omega arith in
      (inside, ap (λ z. z % count) first ∙ mod-mul-add 0 count q less)
  at_side Host q less =
      let inside : count + q < count + count = omega arith in
      let second : count + q ≡ 1 * count + q = omega arith in
      (inside, ap (λ z. z % count) second ∙ mod-mul-add 1 count q less)

  -- Of one list of settings.

  module _ (s : SettingsText) (kept : ℕ → Text → Bool) where
    abbrev on_count : Bool → ℕ
    on_count split = if split then count + count else count

    abbrev sides : Bool → List Entry
    sides split = steps.on_side w.packages s kept Target ++ (if split then steps.on_side w.packages s kept Host else [])

    side_long : (side : Side) → length (steps.on_side w.packages s kept side) ≡ count
    side_long side = length-each_from (steps.on_entry macros s kept side) 0 w.packages

    sides_long : (split : Bool) → length (sides split) ≡ on_count split
    sides_long true =
        length-append (steps.on_side w.packages s kept Target) (steps.on_side w.packages s kept Host)
        ∙ ap (λ z. z + length (steps.on_side w.packages s kept Host)) (side_long Target) ∙ ap (λ z. count + z) (side_long Host)
    sides_long false = ap length (append-nil (steps.on_side w.packages s kept Target)) ∙ side_long Target

    leads_to : (side : Side) (p : ℕ) (d : DeclarationText) (q t : ℕ) → steps.on_lead macros s kept side p d q ≡ Some t → steps.side_base count (steps.lands s.split d (flag_at macros q) side) + q ≡ t
    leads_to side p d q t h =
        ap (λ n. steps.side_base n (steps.lands s.split d (flag_at macros q) side) + q) (sym macros_long)
        ∙ number_is (steps.admitted s kept p side d) (steps.side_base (length macros) (steps.lands s.split d (flag_at macros q) side) + q) t h

    on_leads : (split : Bool) → s.split ≡ split → (side : Side) → (steps.is_host side ≡ true → split ≡ true) → (p : ℕ) (d : DeclarationText) (q t : ℕ) → q < count → steps.on_lead macros s kept side p d q ≡ Some t → (t < on_count split) × (t % count ≡ q)
    on_leads true told side host p d q t less h =
        subst (λ z. (z < count + count) × (z % count ≡ q)) (leads_to side p d q t h) (at_side (steps.lands s.split d (flag_at macros q) side) q less)
    on_leads false told Host host p d q t less h = let clash : false ≡ true = host refl in absurd (cc)
    on_leads false told Target host p d q t less h =
        let target : steps.lands s.split d (flag_at macros q) Target ≡ Target = ap (λ z. steps.lands z d (flag_at macros q) Target) told in
        let number : 0 + q ≡ t = ap (λ z. steps.side_base count z + q) (sym target) ∙ leads_to Target p d q t h in
        let inside : t < count = omega (arith, number, less) in
        (inside, ap (λ z. z % count) (sym number) ∙ (at_side Target q less).1)

    -- the side and the package of an entry
    record IsOn (split : Bool) (m : ℕ) (e : Entry) : Type 0 where
      side : Side
      place : ℕ
      item : PackageText
      number : m ≡ steps.side_base count side + place
      there : slice_get w.packages place ≡ Some item
      entry : steps.on_entry macros s kept side place item ≡ e
      host : steps.is_host side ≡ true → split ≡ true

    of_side : (split : Bool) (side : Side) (k m : ℕ) (e : Entry) → (steps.is_host side ≡ true → split ≡ true) → k ≡ steps.side_base count side + m → slice_get (steps.on_side w.packages s kept side) m ≡ Some e → IsOn split k e
    of_side split side k m e host number h =
        let r = each_back (steps.on_entry macros s kept side) 0 w.packages m e h in
        record { side = side; place = m; item = r.item; number = number; there = r.there; entry = ap (λ z. steps.on_entry macros s kept side z r.item) (sym (zero_plus m)) ∙ r.is; host = host }

    on_back : (split : Bool) (m : ℕ) (e : Entry) → slice_get (sides split) m ≡ Some e → IsOn split m e
    on_back true m e h = ⊎_elim
        (λ i. of_side true Target m m e (λ z. refl) (sym (zero_plus m)) i)
        (λ i. of_side true Host m i.0 e (λ z. refl) (i.1 ∙ ap (λ z. z + i.0) (side_long Target)) i.2)
        (get_cases (steps.on_side w.packages s kept Target) (steps.on_side w.packages s kept Host) m e h)
    on_back false m e h = of_side false Target m m e (λ z. cc) (sym (zero_plus m)) (ap (λ es. slice_get es m) (sym (append-nil (steps.on_side w.packages s kept Target))) ∙ h)

    on_rules : (split : Bool) → s.split ≡ split → (m : ℕ) (e : Entry) → slice_get (sides split) m ≡ Some e → ((d : Dependency) → Contains e.dependencies d → d.to < on_count split) × HasOneName e
    on_rules split told m e h =
        let r = on_back split m e h in
        let x = all_place (IsPackage count) w.packages r.place r.item is.1 r.there in
        let lead = steps.on_lead macros s kept r.side r.place in
        let leads = on_leads split told r.side r.host r.place in
        subst (λ (z : Entry). ((d : Dependency) → Contains z.dependencies d → d.to < on_count split) × HasOneName z) r.entry
        (below count (on_count split) false lead leads r.item x, one_named count (on_count split) false lead leads r.item x)

    pub on_within : AreWithin (steps.on_entries w s kept)
    on_within m e d h i = subst (λ z. d.to < z) (sym (sides_long s.split)) ((on_rules s.split refl m e h).0 d i)

    on_there : (split : Bool) (side : Side) → (steps.is_host side ≡ true → split ≡ true) → (p : ℕ) (x : PackageText) → slice_get w.packages p ≡ Some x → (m : ℕ) → m ≡ steps.side_base count side + p → slice_get (sides split) m ≡ Some (steps.on_entry macros s kept side p x)
    on_there split Target host p x there m number =
        let at : slice_get (steps.on_side w.packages s kept Target) p ≡ Some (steps.on_entry macros s kept Target (0 + p) x) = each_there (steps.on_entry macros s kept Target) 0 w.packages p x there in
        let plain = number ∙ zero_plus p in
        ap (λ n. slice_get (sides split) n) plain ∙ get_left (steps.on_side w.packages s kept Target) (if split then steps.on_side w.packages s kept Host else []) p (steps.on_entry macros s kept Target p x) (at ∙ ap (λ z. Some (steps.on_entry macros s kept Target z x)) (zero_plus p))
    on_there true Host host p x there m number =
        let at : slice_get (steps.on_side w.packages s kept Host) p ≡ Some (steps.on_entry macros s kept Host (0 + p) x) = each_there (steps.on_entry macros s kept Host) 0 w.packages p x there in
        get_right (steps.on_side w.packages s kept Target) (steps.on_side w.packages s kept Host) m p (number ∙ ap (λ z. z + p) (sym (side_long Target)))
        ∙ at ∙ ap (λ z. Some (steps.on_entry macros s kept Host z x)) (zero_plus p)
    on_there false Host host p x there m number = let clash : false ≡ true = host refl in absurd (cc)

  -- With larger settings, and more that is kept.

  module _ (s t : SettingsText) (grow : SettingsGrow w s t) (kept others : ℕ → Text → Bool) (kept_more : (p : ℕ) (name : Text) → kept p name ≡ true → others p name ≡ true) where
    holds_more : (x : PackageText) (d : DeclarationText) → Contains w.packages x → Contains x.declarations d → (host : Bool) → (if host then steps.admits s.host d.platform else steps.admits_any s.targets d.platform) ≡ true → (if host then steps.admits t.host d.platform else steps.admits_any t.targets d.platform) ≡ true
    holds_more x d of_w of_x true h = grow.host x of_w d of_x h
    holds_more x d of_w of_x false h = grow.targets x of_w d of_x h

    unsplit : not s.split ≡ true → not t.split ≡ true
    unsplit h = sym (ap not grow.split) ∙ h

    admitted_more : (x : PackageText) (d : DeclarationText) → Contains w.packages x → Contains x.declarations d → (p : ℕ) (side : Side) → steps.admitted s kept p side d ≡ true → steps.admitted t others p side d ≡ true
    admitted_more x d of_w of_x p side h =
        let dev = not (steps.is_development d.kind) in
        let parts = both_true ((not d.optional || kept p d.name) && (dev || is_started s.commands p && ((needs_development s.choice) || not s.split))) (not s.split || steps.applies_on s.host s.targets side d) h in
        let pair = both_true (not d.optional || kept p d.name) (dev || is_started s.commands p && ((needs_development s.choice) || not s.split)) parts.0 in
        two_true ((not d.optional || others p d.name) && (dev || is_started t.commands p && ((needs_development t.choice) || not t.split))) (not t.split || steps.applies_on t.host t.targets side d)
        (two_true (not d.optional || others p d.name) (dev || is_started t.commands p && ((needs_development t.choice) || not t.split))
        (or_more (not d.optional) (kept p d.name) (others p d.name) (kept_more p d.name) pair.0)
        (or_more dev (is_started s.commands p && ((needs_development s.choice) || not s.split)) (is_started t.commands p && ((needs_development t.choice) || not t.split))
        (and_more (is_started s.commands p) (is_started t.commands p) ((needs_development s.choice) || not s.split) ((needs_development t.choice) || not t.split) (started_more w is s t.commands grow.commands p)
        (either_more (needs_development s.choice) (not s.split) (needs_development t.choice) (not t.split) grow.development unsplit)) pair.1))
        (either_more (not s.split) (steps.applies_on s.host s.targets side d) (not t.split) (steps.applies_on t.host t.targets side d) unsplit (holds_more x d of_w of_x (steps.is_build d.kind || steps.is_host side)) parts.1)

    lead_more : (x : PackageText) (d : DeclarationText) → Contains w.packages x → Contains x.declarations d → (p : ℕ) (side : Side) (q n : ℕ) → steps.on_lead macros s kept side p d q ≡ Some n → steps.on_lead macros t others side p d q ≡ Some n
    lead_more x d of_w of_x p side q n h =
        let to : Bool → ℕ = λ split. steps.side_base (length macros) (steps.lands split d (flag_at macros q) side) + q in
        subst (λ split. steps.number_if (steps.admitted t others p side d) (to split) ≡ Some n) grow.split
        (number_more (steps.admitted s kept p side d) (steps.admitted t others p side d) (to s.split) n (admitted_more x d of_w of_x p side) h)

    entry_more : (x : PackageText) → Contains w.packages x → (side : Side) (p : ℕ) → IsMoreEntry (λ k. k) (steps.on_entry macros s kept side p x) (steps.on_entry macros t others side p x)
    entry_more x of_w side p = record {
      features = λ f i. ⊎_elim
          (λ j. (f, Contains-append_left x.features (steps.command_list (command_of t.commands p)) f j, refl, λ k c. c))
          (λ j. let g = command_there s.commands t.commands grow.commands p f j in (g.0, Contains-append_right x.features (steps.command_list (command_of t.commands p)) g.0 g.1, g.2, g.3))
          (Contains-append_cases x.features (steps.command_list (command_of s.commands p)) f i);
      dependencies = deps_more false (steps.on_lead macros s kept side p) (steps.on_lead macros t others side p) x.declarations (λ d c. lead_more x d of_w c p side);
    }

    pub on_more : HaveMore (steps.on_entries w s kept) (steps.on_entries w t others) everywhere (λ k. k)
    on_more = record {
      entries = λ m e r h.
          let b = on_back s kept s.split m e h in (
            steps.on_entry macros t others b.side b.place b.item,
            on_there t others t.split b.side (λ i. sym grow.split ∙ b.host i) b.place b.item b.there m b.number,
            subst (λ z. IsMoreEntry (λ k. k) z (steps.on_entry macros t others b.side b.place b.item)) b.entry (entry_more b.item (element_at_place w.packages b.place b.item b.there) b.side b.place),
          );
      stays = λ m e d r h i. refl;
      names = λ m f r h. (on_rules t others t.split refl m f h).1;
    }
