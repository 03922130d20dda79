-- The entries and the starts of step `built`, for more that is kept and on.
use Rattle.std.proofs.Common.{◌≡◌, ⊎_elim, ℕ, suc, ◌+◌, ◌*◌, ◌<◌, List, [], ◌∷◌, ◌++◌, Bool, true, false, not, Option, None, Some, length, refl, ap, sym, ◌∙◌, subst, arith, if◌then◌else◌}
use Rattle.std.specs.Prelude.{◌%◌, ◌==◌, ◌&&◌, ◌||◌, Contains, slice_get}
use Rattle.std.specs.List.{list_all, list_any}
use Rattle.std.specs.Option.{is_some, option_map_or}
use Rattle.std.specs.Str.{bytes_eq}
use Rattle.std.proofs.Math.Nat.{suc-mul}
use Rattle.std.proofs.lemmas.Nat.{mod-mul-add}
use Rattle.guppy_packages.specs.Items.{Item, feature_item, optional_item, slash_item, item_of}
use Rattle.feature_labels.specs.Names.{LabelName}
use Rattle.feature_labels.specs.Names.LabelName.{named}
use Rattle.cargo_workspaces.specs.Workspaces.{DeclarationText, FeatureText, IsPackage, IsWorkspace, PackageText, TargetText, Text, WorkspaceText, both_lead_to, has_script, is_proc_macro}
use Rattle.feature_core.proofs.AddsLemmas.{Contains-none}
use Rattle.feature_core.proofs.Places.{get_cases, get_left, get_right}
use Rattle.plan_rows.specs.Commands.{is_started}
use Rattle.plan_rows.specs.Steps as steps
use Rattle.plan_rows.specs.Steps.{SettingsText}
use Rattle.plan_rows.specs.Tables.{Entry, flag_at}
use Rattle.plan_rows.specs.declared.side.Side.{Side}
use Rattle.plan_rows.specs.declared.side.Side.TheVariants.{Target}
use Rattle.plan_rows.proofs.EntryLemmas.{length-each_from}
use Rattle.plan_rows.proofs.EntryRules.{number_is}
use Rattle.cargo_plans.specs.plan_starts.PackageVisits.{PairVisit, is_kept, is_on}
use Rattle.cargo_plans.specs.plan_starts.Starts.{dev_flags, is_among, start_flags, start_places, started, starts_of, starts_on_host, times}
use Rattle.cargo_plans.specs.plan_starts.Targets.{TargetRules, builds, counts, counts_for, has_macro, is_built, is_followed, is_of, is_start, leads_on}
use Rattle.plan_words.specs.TargetChoices.{is_chosen}
use Rattle.laws.specs.plans.Growth.{CommandsGrow, with_commands}
use Rattle.laws.specs.plans.Laws.{AreAmong}
use Rattle.laws.proofs.BuiltStep.{all_place, entries_within}
use Rattle.laws.proofs.EntryGrowth.{HasOneName, HaveMore, IsMoreEntry}
use Rattle.laws.proofs.EntryLinks.{AreWithin}
use Rattle.laws.proofs.Members.{any_member, both_true, member_any}
use Rattle.laws.proofs.MoreEntries.{deps_more, each_there, everywhere, number_more, one_named, started_more, two_true}
use Rattle.laws.proofs.MoreOn.{or_more}
use Rattle.laws.proofs.Flags.{Grows, bases_more, grows-append, grows-each, grows-flag, grows-times, host_more, same_long}
use Rattle.laws.proofs.Numbered.{each_back}

zero_plus : (n : ℕ) → 0 + n ≡ n
zero_plus n = omega arith

-- Names.

module _ (w : WorkspaceText) (is : IsWorkspace w) (s : SettingsText) (dev : ℕ → Bool) where
  abbrev count : ℕ
  count = length w.packages

  abbrev macros : List Bool
  macros = steps.macros_of w.packages

  leads : (on : ℕ → Text → Bool) (a : ℕ) (holds : Text → Bool) (script : Bool) (p : ℕ) (d : DeclarationText) (q t : ℕ) → q < count → steps.built_lead macros s on dev (a * count) holds script p d q ≡ Some t → (t < a * count + count) × (t % count ≡ q)
  leads on a holds script p d q t less h =
      let first = steps.is_build d.kind || flag_at macros q in
      let same : (if first then 0 else a * count) + q ≡ t = number_is (steps.used s on dev (a * count) holds script p d) (steps.place_to (a * count) d (flag_at macros q) + q) t h in
      subst (λ z. (z < a * count + count) × (z % count ≡ q)) same (at first)
    where
      at : (b : Bool) → ((if b then 0 else a * count) + q < a * count + count) × (((if b then 0 else a * count) + q) % count ≡ q)
      at true =
          let inside : 0 + q < a * count + count = omega arith in
          let host : 0 + q ≡ 0 * count + q = omega arith in
          (inside, ap (λ z. z % count) host ∙ mod-mul-add 0 count q less)
      at false =
          let inside : a * count + q < a * count + count = omega arith in
          (inside, mod-mul-add a count q less)

  place_named : (on : ℕ → Text → Bool) (a : ℕ) (holds : Text → Bool) (m : ℕ) (e : Entry) → slice_get (steps.built_place w.packages s on dev (a * count) holds) m ≡ Some e → HasOneName e
  place_named on a holds m e h =
      let r = each_back (steps.built_entry macros s on dev (a * count) holds) 0 w.packages m e h in
      let x = all_place (IsPackage count) w.packages m r.item is.1 r.there in
      subst HasOneName r.is (one_named count (a * count + count) true (steps.built_lead macros s on dev (a * count) holds (has_script r.item) (0 + m)) (leads on a holds (has_script r.item) (0 + m)) r.item x)

  module _ (turned_on : Side → ℕ → Text → Bool) where
    one_further : (a : ℕ) → a * count + count ≡ suc a * count
    one_further a = sym (suc-mul a count)

    targets_named : (a : ℕ) (ts : List (Text → Bool)) (m : ℕ) (e : Entry) → slice_get (steps.built_from w.packages s turned_on dev (a * count) ts) m ≡ Some e → HasOneName e
    targets_named a [] m e h = absurd (cc)
    targets_named a (holds ∷ ts) m e h = ⊎_elim
        (λ i. place_named (turned_on Target) a holds m e i)
        (λ i. targets_named (suc a) ts i.0 e (subst (λ b. slice_get (steps.built_from w.packages s turned_on dev b ts) i.0 ≡ Some e) (one_further a) i.2))
        (get_cases (steps.built_place w.packages s (turned_on Target) dev (a * count) holds) (steps.built_from w.packages s turned_on dev (a * count + count) ts) m e h)

    built_named : (m : ℕ) (e : Entry) → slice_get (steps.built_entries w s turned_on dev) m ≡ Some e → HasOneName e
    built_named m e h = ⊎_elim
        (λ i. place_named (turned_on (steps.side_of s.split true)) 0 s.host m e (subst (λ b. slice_get (steps.built_place w.packages s (turned_on (steps.side_of s.split true)) dev b s.host) m ≡ Some e) none i))
        (λ i. targets_named 1 s.targets i.0 e (subst (λ b. slice_get (steps.built_from w.packages s turned_on dev b s.targets) i.0 ≡ Some e) one i.2))
        (get_cases (steps.built_place w.packages s (turned_on (steps.side_of s.split true)) dev 0 s.host) (steps.built_from w.packages s turned_on dev (length w.packages) s.targets) m e h)
      where
        none : 0 ≡ 0 * count
        none = omega arith

        one : length w.packages ≡ 1 * count
        one = omega arith

-- More entries.

module _ (w : WorkspaceText) (is : IsWorkspace w) (s : SettingsText) (commands : List (Option FeatureText)) (turned others : Side → ℕ → Text → Bool) (turned_more : (side : Side) (p : ℕ) (name : Text) → turned side p name ≡ true → others side p name ≡ true) (dev devs : ℕ → Bool) (dev_more : (k : ℕ) → dev k ≡ true → devs k ≡ true) where
  abbrev more : SettingsText
  more = with_commands s commands

  used_more : (side : Side) (b : ℕ) (holds : Text → Bool) (script : Bool) (p : ℕ) (d : DeclarationText) → steps.used s (turned side) dev b holds script p d ≡ true → steps.used more (others side) devs b holds script p d ≡ true
  used_more side b holds script p d h =
      let kind = not (steps.is_development d.kind) in
      let scripted = not (steps.is_build d.kind) || script in
      let platform = if steps.is_build d.kind then steps.admits s.host d.platform else steps.admits holds d.platform in
      let first = both_true ((kind || dev (b + p)) && scripted && (not d.optional || turned side p d.name)) platform h in
      let second = both_true ((kind || dev (b + p)) && scripted) (not d.optional || turned side p d.name) first.0 in
      let third = both_true (kind || dev (b + p)) scripted second.0 in
      two_true ((kind || devs (b + p)) && scripted && (not d.optional || others side p d.name)) platform
      (two_true ((kind || devs (b + p)) && scripted) (not d.optional || others side p d.name)
      (two_true (kind || devs (b + p)) scripted (or_more kind (dev (b + p)) (devs (b + p)) (dev_more (b + p)) third.0) third.1)
      (or_more (not d.optional) (turned side p d.name) (others side p d.name) (turned_more side p d.name) second.1))
      first.1

  entry_more : (side : Side) (b : ℕ) (holds : Text → Bool) (p : ℕ) (x : PackageText) → IsMoreEntry (λ k. k) (steps.built_entry (steps.macros_of w.packages) s (turned side) dev b holds p x) (steps.built_entry (steps.macros_of w.packages) more (others side) devs b holds p x)
  entry_more side b holds p x = record {
    features = λ f i. absurd (Contains-none f i);
    dependencies = deps_more true (steps.built_lead (steps.macros_of w.packages) s (turned side) dev b holds (has_script x) p) (steps.built_lead (steps.macros_of w.packages) more (others side) devs b holds (has_script x) p) x.declarations
        (λ d c q t h. number_more (steps.used s (turned side) dev b holds (has_script x) p d) (steps.used more (others side) devs b holds (has_script x) p d) (steps.place_to b d (flag_at (steps.macros_of w.packages) q) + q) t (used_more side b holds (has_script x) p d) h);
  }

  abbrev small : Side → ℕ → (Text → Bool) → List Entry
  small side b holds = steps.built_place w.packages s (turned side) dev b holds

  abbrev large : Side → ℕ → (Text → Bool) → List Entry
  large side b holds = steps.built_place w.packages more (others side) devs b holds

  one_long : (side : Side) (b : ℕ) (holds : Text → Bool) → length (small side b holds) ≡ length (large side b holds)
  one_long side b holds =
      length-each_from (steps.built_entry (steps.macros_of w.packages) s (turned side) dev b holds) 0 w.packages
      ∙ sym (length-each_from (steps.built_entry (steps.macros_of w.packages) more (others side) devs b holds) 0 w.packages)

  place_more : (side : Side) (b : ℕ) (holds : Text → Bool) (m : ℕ) (e : Entry) → slice_get (small side b holds) m ≡ Some e → (f : Entry) × (slice_get (large side b holds) m ≡ Some f) × IsMoreEntry (λ k. k) e f
  place_more side b holds m e h =
      let r = each_back (steps.built_entry (steps.macros_of w.packages) s (turned side) dev b holds) 0 w.packages m e h in (
        steps.built_entry (steps.macros_of w.packages) more (others side) devs b holds (0 + m) r.item,
        each_there (steps.built_entry (steps.macros_of w.packages) more (others side) devs b holds) 0 w.packages m r.item r.there,
        subst (λ z. IsMoreEntry (λ k. k) z (steps.built_entry (steps.macros_of w.packages) more (others side) devs b holds (0 + m) r.item)) r.is (entry_more side b holds (0 + m) r.item),
      )

  -- two places one after the other
  joined_more : (xs ys us vs : List Entry) → length xs ≡ length ys → ((m : ℕ) (e : Entry) → slice_get xs m ≡ Some e → (f : Entry) × (slice_get ys m ≡ Some f) × IsMoreEntry (λ k. k) e f) → ((m : ℕ) (e : Entry) → slice_get us m ≡ Some e → (f : Entry) × (slice_get vs m ≡ Some f) × IsMoreEntry (λ k. k) e f)
      → (m : ℕ) (e : Entry) → slice_get (xs ++ us) m ≡ Some e → (f : Entry) × (slice_get (ys ++ vs) m ≡ Some f) × IsMoreEntry (λ k. k) e f
  joined_more xs ys us vs long first rest m e h = ⊎_elim
      (λ i. let r = first m e i in (r.0, get_left ys vs m r.0 r.1, r.2))
      (λ i. let r = rest i.0 e i.2 in (r.0, get_right ys vs m i.0 (i.1 ∙ ap (λ z. z + i.0) long) ∙ r.1, r.2))
      (get_cases xs us m e h)

  targets_more : (b : ℕ) (ts : List (Text → Bool)) (m : ℕ) (e : Entry) → slice_get (steps.built_from w.packages s turned dev b ts) m ≡ Some e → (f : Entry) × (slice_get (steps.built_from w.packages more others devs b ts) m ≡ Some f) × IsMoreEntry (λ k. k) e f
  targets_more b [] m e h = absurd (cc)
  targets_more b (holds ∷ ts) m e h =
      joined_more (small Target b holds) (large Target b holds) (steps.built_from w.packages s turned dev (b + length w.packages) ts) (steps.built_from w.packages more others devs (b + length w.packages) ts)
      (one_long Target b holds) (place_more Target b holds) (targets_more (b + length w.packages) ts) m e h

  pub built_more : HaveMore (steps.built_entries w s turned dev) (steps.built_entries w more others devs) everywhere (λ k. k)
  built_more = record {
    entries = λ m e r h.
        joined_more (small (steps.side_of s.split true) 0 s.host) (large (steps.side_of s.split true) 0 s.host) (steps.built_from w.packages s turned dev (length w.packages) s.targets) (steps.built_from w.packages more others devs (length w.packages) s.targets)
        (one_long (steps.side_of s.split true) 0 s.host) (place_more (steps.side_of s.split true) 0 s.host) (targets_more (length w.packages) s.targets) m e h;
    stays = λ m e d r h i. refl;
    names = λ m f r h. built_named w is more devs others m f h;
  }

pub built_within : (w : WorkspaceText) → IsWorkspace w → (s : SettingsText) (turned : Side → ℕ → Text → Bool) (dev : ℕ → Bool) → AreWithin (steps.built_entries w s turned dev)
built_within w is s turned dev = entries_within w is (λ p. true) (λ p q x d there member leads h. refl) s turned dev

-- More starts.

any_weaker : {X : Type 0} (p q : X → Bool) (xs : List X) → ((x : X) → p x ≡ true → q x ≡ true) → list_any p xs ≡ true → list_any q xs ≡ true
any_weaker p q xs f h = let m = member_any p xs h in any_member q xs m.element m.member (f m.element m.passes)

all_weaker : {X : Type 0} (p q : X → Bool) (xs : List X) → ((x : X) → p x ≡ true → q x ≡ true) → list_all p xs ≡ true → list_all q xs ≡ true
all_weaker p q [] f h = refl
all_weaker p q (x ∷ xs) f h = let parts = both_true (p x) (list_all p xs) h in two_true (q x) (list_all q xs) (f x parts.0) (all_weaker p q xs f parts.1)

module _ (w : WorkspaceText) (is : IsWorkspace w) (s : SettingsText) (commands : List (Option FeatureText)) (grow : CommandsGrow s.commands commands) (k j o l : PairVisit)
    (kept_more : (p : ℕ) (name : Text) → is_kept k p name ≡ true → is_kept j p name ≡ true) (on_more : (side : Side) (p : ℕ) (label : LabelName) → is_on o side p label ≡ true → is_on l side p label ≡ true) where
  abbrev rules : TargetRules
  rules = record { settings = s; packages = w.packages; kept = k; on = o }

  abbrev others : TargetRules
  others = record { settings = with_commands s commands; packages = w.packages; kept = j; on = l }

  of_more : (p : ℕ) (name : Text) (d : DeclarationText) → is_of rules p name d ≡ true → is_of others p name d ≡ true
  of_more p name d h =
      let dev = not (steps.is_development d.kind) in
      let parts = both_true (bytes_eq d.name name) (is_followed rules p d) h in
      let first = both_true (is_some d.leads_to && (dev || is_started s.commands p)) (not d.optional || is_kept k p d.name) parts.1 in
      let second = both_true (is_some d.leads_to) (dev || is_started s.commands p) first.0 in
      two_true (bytes_eq d.name name) (is_followed others p d) parts.0
      (two_true (is_some d.leads_to && (dev || is_started commands p)) (not d.optional || is_kept j p d.name)
      (two_true (is_some d.leads_to) (dev || is_started commands p) second.0 (or_more dev (is_started s.commands p) (is_started commands p) (started_more w is s commands grow p) second.1))
      (or_more (not d.optional) (is_kept k p d.name) (is_kept j p d.name) (kept_more p d.name) first.1))

  leads_more : (feature : Text) (d : DeclarationText) → leads_on rules feature d ≡ true → leads_on others feature d ≡ true
  leads_more feature d h = go d.leads_to h
    where
      go : (q : Option ℕ) → option_map_or (λ q. is_on o (steps.lands s.split d (has_macro w.packages q) Target) q (named feature)) q false ≡ true → option_map_or (λ q. is_on l (steps.lands s.split d (has_macro w.packages q) Target) q (named feature)) q false ≡ true
      go None i = cc
      go (Some q) i = on_more (steps.lands s.split d (has_macro w.packages q) Target) q (named feature) i

  abbrev met : TargetRules → ℕ → PackageText → Text → Item → Bool
  met r p x need item = elim item [
    | slash_item name feature weak ↦
        list_any (λ d. is_of r p name d && leads_on r feature d && counts_for r p name x.declarations d.leads_to) x.declarations
    | _ ↦ is_on r.on Target p (named need)
  ]

  counts_more : (p : ℕ) (name : Text) (ds : List DeclarationText) (to : Option ℕ) → counts_for rules p name ds to ≡ true → counts_for others p name ds to ≡ true
  counts_more p name ds to h =
      any_weaker (λ d. is_of rules p name d && counts s d && both_lead_to to d.leads_to) (λ d. is_of others p name d && counts (with_commands s commands) d && both_lead_to to d.leads_to) ds
      (λ d i.
      let q = both_true (is_of rules p name d && counts s d) (both_lead_to to d.leads_to) i in
      let first = both_true (is_of rules p name d) (counts s d) q.0 in
      two_true (is_of others p name d && counts (with_commands s commands) d) (both_lead_to to d.leads_to)
      (two_true (is_of others p name d) (counts (with_commands s commands) d) (of_more p name d first.0) first.1) q.1) h

  met_more : (p : ℕ) (x : PackageText) (need : Text) (item : Item) → met rules p x need item ≡ true → met others p x need item ≡ true
  met_more p x need (feature_item f) h = on_more Target p (named need) h
  met_more p x need (optional_item d) h = on_more Target p (named need) h
  met_more p x need (slash_item name feature weak) h =
      any_weaker (λ d. is_of rules p name d && leads_on rules feature d && counts_for rules p name x.declarations d.leads_to) (λ d. is_of others p name d && leads_on others feature d && counts_for others p name x.declarations d.leads_to) x.declarations
      (λ d i.
      let q = both_true (is_of rules p name d && leads_on rules feature d) (counts_for rules p name x.declarations d.leads_to) i in
      let first = both_true (is_of rules p name d) (leads_on rules feature d) q.0 in
      two_true (is_of others p name d && leads_on others feature d) (counts_for others p name x.declarations d.leads_to)
      (two_true (is_of others p name d) (leads_on others feature d) (of_more p name d first.0) (leads_more feature d first.1)) (counts_more p name x.declarations d.leads_to q.1)) h

  target_more : (p : ℕ) (x : PackageText) (t : TargetText) → is_built rules p x t ≡ true → is_built others p x t ≡ true
  target_more p x t h =
      let parts = both_true (is_chosen s.choice t) (list_all (λ need. met rules p x need (item_of need)) t.required_features) h in
      two_true (is_chosen s.choice t) (list_all (λ need. met others p x need (item_of need)) t.required_features) parts.0
      (all_weaker (λ need. met rules p x need (item_of need)) (λ need. met others p x need (item_of need)) t.required_features (λ need. met_more p x need (item_of need)) parts.1)

  builds_more : (dev macros : Bool) (p : ℕ) (x : PackageText) → builds rules dev macros p x ≡ true → builds others dev macros p x ≡ true
  builds_more dev macros p x h = any_weaker (λ t. is_start s.choice dev macros t && is_built rules p x t) (λ t. is_start s.choice dev macros t && is_built others p x t) x.targets
      (λ t i. let q = both_true (is_start s.choice dev macros t) (is_built rules p x t) i in two_true (is_start s.choice dev macros t) (is_built others p x t) q.0 (target_more p x t q.1)) h

  module _ (selected larger : List ℕ) (among : (p : ℕ) → Contains selected p → Contains larger p) where
    among_more : (p : ℕ) → is_among selected p ≡ true → is_among larger p ≡ true
    among_more p h = let m = member_any (λ n. n == p) selected h in any_member (λ n. n == p) larger m.element (among m.element m.member) m.passes

    abbrev flagged : TargetRules → List ℕ → Bool → Bool → ℕ → PackageText → Bool
    flagged r numbers dev macros p x = is_among numbers p && builds r dev macros p x

    started_grows : (dev macros : Bool) → Grows (started rules selected dev macros) (started others larger dev macros)
    started_grows dev macros = grows-each (flagged rules selected dev macros) (flagged others larger dev macros)
        (λ p x h. let q = both_true (is_among selected p) (builds rules dev macros p x) h in two_true (is_among larger p) (builds others dev macros p x) (among_more p q.0) (builds_more dev macros p x q.1)) 0 w.packages

    started_long : (dev macros : Bool) → length (started rules selected dev macros) ≡ length (started others larger dev macros)
    started_long dev macros = same_long (flagged rules selected dev macros) (flagged others larger dev macros) 0 w.packages

    abbrev hosted : TargetRules → List ℕ → ℕ → PackageText → Bool
    hosted r numbers = starts_on_host (started r numbers false true) (started r numbers false false)

    hosts_grow : Grows (starts_of rules selected).hosts (starts_of others larger).hosts
    hosts_grow = grows-each (hosted rules selected) (hosted others larger)
        (λ p x. host_more (flag_at (started rules selected false true) p) (flag_at (started others larger false true) p) (flag_at (started rules selected false false) p) (flag_at (started others larger false false) p) (is_proc_macro x)
        (grows-flag (started rules selected false true) (started others larger false true) (started_grows false true) p)
        (grows-flag (started rules selected false false) (started others larger false false) (started_grows false false) p)) 0 w.packages

    pub places_grow : (targets : ℕ) → AreAmong (start_places targets (starts_of rules selected)) (start_places targets (starts_of others larger))
    places_grow targets =
        let a = starts_of rules selected in
        let b = starts_of others larger in
        bases_more 0 (start_flags targets a) (start_flags targets b)
        (grows-append a.hosts b.hosts (times targets a.others) (times targets b.others) (same_long (hosted rules selected) (hosted others larger) 0 w.packages) hosts_grow (grows-times targets a.others b.others (started_long false false) (started_grows false false)))

    pub devs_grow : (targets : ℕ) (m : ℕ) → flag_at (dev_flags targets (starts_of rules selected)) m ≡ true → flag_at (dev_flags targets (starts_of others larger)) m ≡ true
    devs_grow targets m h =
        let a = starts_of rules selected in
        let b = starts_of others larger in
        grows-flag (a.dev_macros ++ times targets a.dev_others) (b.dev_macros ++ times targets b.dev_others)
        (grows-append a.dev_macros b.dev_macros (times targets a.dev_others) (times targets b.dev_others) (started_long true true) (started_grows true true)
        (grows-times targets a.dev_others b.dev_others (started_long true false) (started_grows true false))) m h
