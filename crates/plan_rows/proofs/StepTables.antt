-- The rows of each step have tables.
use Rattle.std.proofs.Common.{◌≡◌, ℕ, ◌+◌, ◌-◌, ◌*◌, ◌<◌, ◌≤◌, ◌^◌, List, [], ◌∷◌, ◌++◌, Bool, true, false, cond, ◌||◌, not, Option, None, Some, is_ok, if◌then◌else◌, length, map, codes, bytes_eq, refl, ap, sym, subst, ◌∙◌, arith, length-append}
use Rattle.std.proofs.Math.Nat.{suc-mul}
use Rattle.std.specs.Prelude.{nat_lt}
use Rattle.std.specs.List.{list_all, AllByRecursion}
use Rattle.std.proofs.lemmas.List.{append-nil, length-map, map-append}
use Rattle.guppy_packages.specs.Graph.{tables_of}
use Rattle.guppy_packages.proofs.Firsts.{AreApart}
use Rattle.cargo_workspaces.specs.Workspaces.{Text, DeclarationText, FeatureText, IsPackage, IsWorkspace, PackageText, WorkspaceText, has_script, is_proc_macro, may_name_feature}
use Rattle.plan_rows.specs.Commands.{are_commands, command_of}
use Rattle.plan_rows.specs.Steps as steps
use Rattle.plan_rows.specs.Steps.{SettingsText, number_if}
use Rattle.plan_rows.specs.Tables.{Entry, each_from, flag_at, rows_of}
use Rattle.plan_rows.specs.declared.side.Side.{Side}
use Rattle.plan_rows.specs.declared.side.Side.TheVariants.{Target, Host}
use Rattle.plan_rows.proofs.EntryLemmas.{length-each_from, places_room}
use Rattle.plan_rows.proofs.EntryRules.{IsEntry, all-append, all-each, apart_command, apart_gated, command-is, entries_tables, entry_is, is_command, number_is, sorted_apart}
use Rattle.plan_rows.proofs.RowFaults.{same_name}

-- entries of a table of as many entries as there are
tables_from : (es : List Entry) (count : ℕ) → length es ≡ count → count < 2 ^ 64 → AllByRecursion (IsEntry count) es → is_ok (tables_of (rows_of es)) ≡ true
tables_from es count long small a = entries_tables es (subst (λ n. n < 2 ^ 64) (sym long) small) (subst (λ n. AllByRecursion (IsEntry n) es) (sym long) a)

package_apart : (n : ℕ) (x : PackageText) → IsPackage n x → AreApart same_name x.features
package_apart n x is = sorted_apart x.features is.0

-- Step `resolved`.

module _ (n count : ℕ) (some : n ≤ count) where
  resolved_leads : (started : Bool) (d : DeclarationText) (q t : ℕ) → q < n → steps.resolved_lead started d q ≡ Some t → (t < count) × (t ≡ q)
  resolved_leads started d q t below is =
      let same : q ≡ t = number_is (started || not (steps.is_development d.kind)) q t is in
      let inside : t < count = omega arith in
      (inside, sym same)

  other_is : (p : ℕ) (x : PackageText) → IsPackage n x → IsEntry count (steps.other_entry p x)
  other_is p x is = entry_is n count false (steps.resolved_lead false) (λ t. t) (resolved_leads false) x (map steps.gated_feature x.features) is (apart_gated x.features (package_apart n x is))

  started_is : (command : Option FeatureText) → is_command command ≡ true → (x : PackageText) → IsPackage n x → IsEntry count (steps.started_entry command x)
  started_is None named x is = (tt, refl, tt)
  started_is (Some command) named x is =
      let fs = map steps.gated_feature x.features in
      let apart : AreApart same_name (fs ++ steps.gated_feature command ∷ []) = gated_command x.features command (package_apart n x is) named is.1 in
      entry_is n count false (steps.resolved_lead true) (λ t. t) (resolved_leads true) x (fs ++ steps.gated_feature command ∷ []) is apart
    where
      gated_command : (fs : List FeatureText) (c : FeatureText) → AreApart same_name fs → bytes_eq c.name (codes "[command]") ≡ true → list_all (λ f. may_name_feature f.name) fs ≡ true → AreApart same_name (map steps.gated_feature fs ++ steps.gated_feature c ∷ [])
      gated_command fs c a named h = subst (AreApart same_name) (map-append steps.gated_feature fs (c ∷ [])) (apart_gated (fs ++ c ∷ []) (apart_command c fs a named h))

pub resolved_tables : (w : WorkspaceText) (s : SettingsText) → IsWorkspace w → are_commands s.commands ≡ true → 2 * length w.packages < 2 ^ 64 → is_ok (tables_of (rows_of (steps.resolved_entries w s))) ≡ true
resolved_tables w s is commands small =
    let n = length w.packages in
    let others = each_from steps.other_entry 0 w.packages in
    let started = λ (p : ℕ) (x : PackageText). steps.started_entry (command_of s.commands p) x in
    let starts = each_from started 0 w.packages in
    let long : length (others ++ starts) ≡ 2 * n = omega (arith, length-append others starts, length-each_from steps.other_entry 0 w.packages, length-each_from started 0 w.packages) in
    let first = all-each (IsEntry (2 * n)) (IsPackage n) steps.other_entry (other_is n (2 * n) (omega arith)) 0 w.packages is.1 in
    let second = all-each (IsEntry (2 * n)) (IsPackage n) started (λ p x h. started_is n (2 * n) (omega arith) (command_of s.commands p) (command-is s.commands p commands) x h) 0 w.packages is.1 in
    tables_from (others ++ starts) (2 * n) long small (all-append (IsEntry (2 * n)) others starts first second)

-- Step `on`.

-- the package of an entry at a place that begins at `base`, or at the first place
abbrev package_at : ℕ → ℕ → ℕ → ℕ
package_at n base t = cond (nat_lt t n) t (t - base)

at_first : (n base q : ℕ) → q < n → package_at n base (0 + q) ≡ q
at_first n base q below =
    let test : nat_lt q n ≡ true = grind arith in
    let zero_plus : 0 + q ≡ q = omega arith in
    rw (zero_plus, test) refl

at_base : (n base q : ℕ) → q < n → n ≤ base → package_at n base (base + q) ≡ q
at_base n base q below past =
    let test : nat_lt (base + q) n ≡ false = grind arith in
    let minus : base + q - base ≡ q = omega arith in
    rw (test, minus) refl

side_at : (n : ℕ) (side : Side) (q : ℕ) → q < n → (steps.side_base n side + q < n + n) × (package_at n n (steps.side_base n side + q) ≡ q)
side_at n Target q below =
    let inside : 0 + q < n + n = omega arith in
    (inside, at_first n n q below)
side_at n Host q below =
    let inside : n + q < n + n = omega arith in
    (inside, at_base n n q below (omega arith))

features_apart : (n : ℕ) (x : PackageText) (command : Option FeatureText) → IsPackage n x → is_command command ≡ true → AreApart same_name (x.features ++ steps.command_list command)
features_apart n x None is named = subst (AreApart same_name) (sym (append-nil x.features)) (package_apart n x is)
features_apart n x (Some c) is named = apart_command c x.features (package_apart n x is) named is.1

module _ (packages : List PackageText) (s : SettingsText) (commands : are_commands s.commands ≡ true) (kept : ℕ → Text → Bool) where
  abbrev on_count : ℕ
  on_count = length (steps.macros_of packages)

  long : length (steps.macros_of packages) ≡ length packages
  long = length-map packages is_proc_macro

  on_leads : (side : Side) (p : ℕ) (d : DeclarationText) (q t : ℕ) → q < on_count → steps.on_lead (steps.macros_of packages) s kept side p d q ≡ Some t → (t < on_count + on_count) × (package_at on_count on_count t ≡ q)
  on_leads side p d q t below is =
      let to = steps.lands s.split d (flag_at (steps.macros_of packages) q) side in
      let same : steps.side_base on_count to + q ≡ t = number_is (steps.admitted s kept p side d) (steps.side_base on_count to + q) t is in
      subst (λ z. (z < on_count + on_count) × (package_at on_count on_count z ≡ q)) same (side_at on_count to q below)

  target_leads : s.split ≡ false → (p : ℕ) (d : DeclarationText) (q t : ℕ) → q < on_count → steps.on_lead (steps.macros_of packages) s kept Target p d q ≡ Some t → (t < on_count) × (package_at on_count on_count t ≡ q)
  target_leads whole p d q t below is =
      let to = steps.lands s.split d (flag_at (steps.macros_of packages) q) Target in
      let target : to ≡ Target = rw whole refl in
      let same : steps.side_base on_count to + q ≡ t = number_is (steps.admitted s kept p Target d) (steps.side_base on_count to + q) t is in
      let number : 0 + q ≡ t = ap (λ z. steps.side_base on_count z + q) (sym target) ∙ same in
      let inside : t < on_count = omega arith in
      (inside, subst (λ z. package_at on_count on_count z ≡ q) number (at_first on_count on_count q below))

  on_is : (count : ℕ) (side : Side) → ((p : ℕ) (d : DeclarationText) (q t : ℕ) → q < on_count → steps.on_lead (steps.macros_of packages) s kept side p d q ≡ Some t → (t < count) × (package_at on_count on_count t ≡ q))
      → (p : ℕ) (x : PackageText) → IsPackage on_count x → IsEntry count (steps.on_entry (steps.macros_of packages) s kept side p x)
  on_is count side leads p x is =
      entry_is on_count count false (steps.on_lead (steps.macros_of packages) s kept side p) (package_at on_count on_count) (leads p) x (x.features ++ steps.command_list (command_of s.commands p)) is (features_apart on_count x (command_of s.commands p) is (command-is s.commands p commands))

  side_is : (count : ℕ) (side : Side) → ((p : ℕ) (d : DeclarationText) (q t : ℕ) → q < on_count → steps.on_lead (steps.macros_of packages) s kept side p d q ≡ Some t → (t < count) × (package_at on_count on_count t ≡ q))
      → AllByRecursion (IsPackage (length packages)) packages → AllByRecursion (IsEntry count) (steps.on_side packages s kept side)
  side_is count side leads all = all-each (IsEntry count) (IsPackage on_count) (steps.on_entry (steps.macros_of packages) s kept side) (on_is count side leads) 0 packages (subst (λ m. AllByRecursion (IsPackage m) packages) (sym long) all)

  side_long : (side : Side) → length (steps.on_side packages s kept side) ≡ on_count
  side_long side = length-each_from (steps.on_entry (steps.macros_of packages) s kept side) 0 packages ∙ sym long

  both_tables : AllByRecursion (IsPackage (length packages)) packages → 2 * length packages < 2 ^ 64 → (split : Bool) → s.split ≡ split
      → is_ok (tables_of (rows_of (steps.on_side packages s kept Target ++ (if split then steps.on_side packages s kept Host else [])))) ≡ true
  both_tables all small true told =
      let ts = steps.on_side packages s kept Target in
      let hs = steps.on_side packages s kept Host in
      let count : length (ts ++ hs) ≡ on_count + on_count = omega (arith, length-append ts hs, side_long Target, side_long Host) in
      tables_from (ts ++ hs) (on_count + on_count) count (omega (arith, long)) (all-append (IsEntry (on_count + on_count)) ts hs (side_is (on_count + on_count) Target (on_leads Target) all) (side_is (on_count + on_count) Host (on_leads Host) all))
  both_tables all small false told =
      let ts = steps.on_side packages s kept Target in
      let count : length (ts ++ []) ≡ on_count = ap length (append-nil ts) ∙ side_long Target in
      tables_from (ts ++ []) on_count count (omega (arith, long)) (all-append (IsEntry on_count) ts [] (side_is on_count Target (target_leads told) all) tt)

pub on_tables : (w : WorkspaceText) (s : SettingsText) (kept : ℕ → Text → Bool) → IsWorkspace w → are_commands s.commands ≡ true → 2 * length w.packages < 2 ^ 64 → is_ok (tables_of (rows_of (steps.on_entries w s kept))) ≡ true
on_tables w s kept is commands small = both_tables w.packages s commands kept is.1 small s.split refl

-- Step `built`.

below_more : (a b count : ℕ) → a < b → b ≤ count → a < count
below_more a b count h k = omega arith

le_front : (a b count : ℕ) → a + b ≤ count → a ≤ count
le_front a b count h = omega arith

zero_times : (a : ℕ) → 0 ≡ 0 * a
zero_times a = omega arith

plus_comm : (a b : ℕ) → a + b ≡ b + a
plus_comm a b = omega arith

module _ (packages : List PackageText) (s : SettingsText) (with_dev : ℕ → Bool) (all : AllByRecursion (IsPackage (length packages)) packages) where
  abbrev place_count : ℕ
  place_count = length packages

  place_at : (base : ℕ) (first : Bool) (q : ℕ) → q < place_count → place_count ≤ base → ((if first then 0 else base) + q < base + place_count) × (package_at place_count base ((if first then 0 else base) + q) ≡ q)
  place_at base true q below past =
      let inside : 0 + q < base + place_count = omega arith in
      (inside, at_first place_count base q below)
  place_at base false q below past =
      let inside : base + q < base + place_count = omega arith in
      (inside, at_base place_count base q below past)

  host_at : (first : Bool) (q : ℕ) → q < place_count → ((if first then 0 else 0) + q < 0 + place_count) × (package_at place_count place_count ((if first then 0 else 0) + q) ≡ q)
  host_at true q below =
      let inside : 0 + q < 0 + place_count = omega arith in
      (inside, at_first place_count place_count q below)
  host_at false q below =
      let inside : 0 + q < 0 + place_count = omega arith in
      (inside, at_first place_count place_count q below)

  module _ (turned_on : ℕ → Text → Bool) (base count : ℕ) (holds : Text → Bool) (back : ℕ → ℕ) (at : (first : Bool) (q : ℕ) → q < place_count → ((if first then 0 else base) + q < count) × (back ((if first then 0 else base) + q) ≡ q)) where
    built_leads : (script : Bool) (p : ℕ) (d : DeclarationText) (q t : ℕ) → q < place_count → steps.built_lead (steps.macros_of packages) s turned_on with_dev base holds script p d q ≡ Some t → (t < count) × (back t ≡ q)
    built_leads script p d q t below is =
        let first = steps.is_build d.kind || flag_at (steps.macros_of packages) q in
        let same : (if first then 0 else base) + q ≡ t = number_is (steps.used s turned_on with_dev base holds script p d) (steps.place_to base d (flag_at (steps.macros_of packages) q) + q) t is in
        subst (λ z. (z < count) × (back z ≡ q)) same (at first q below)

    built_is : (p : ℕ) (x : PackageText) → IsPackage place_count x → IsEntry count (steps.built_entry (steps.macros_of packages) s turned_on with_dev base holds p x)
    built_is p x is = entry_is place_count count true (steps.built_lead (steps.macros_of packages) s turned_on with_dev base holds (has_script x) p) back (built_leads (has_script x) p) x [] is tt

    place_is : AllByRecursion (IsEntry count) (steps.built_place packages s turned_on with_dev base holds)
    place_is = all-each (IsEntry count) (IsPackage place_count) (steps.built_entry (steps.macros_of packages) s turned_on with_dev base holds) built_is 0 packages all

    place_long : length (steps.built_place packages s turned_on with_dev base holds) ≡ place_count
    place_long = length-each_from (steps.built_entry (steps.macros_of packages) s turned_on with_dev base holds) 0 packages

  module _ (turned_on : Side → ℕ → Text → Bool) where
    targets_is : (base count : ℕ) (ts : List (Text → Bool)) → place_count ≤ base → base + length ts * place_count ≤ count → AllByRecursion (IsEntry count) (steps.built_from packages s turned_on with_dev base ts)
    targets_is base count [] past room = tt
    targets_is base count (holds ∷ ts) past room =
        let more : base + place_count + length ts * place_count ≤ count = places_room base place_count (length ts) (length (holds ∷ ts)) count refl room in
        let near : base + place_count ≤ count = le_front (base + place_count) (length ts * place_count) count more in
        let at : (first : Bool) (q : ℕ) → q < place_count → ((if first then 0 else base) + q < count) × (package_at place_count base ((if first then 0 else base) + q) ≡ q) = λ first q below. (below_more _ (base + place_count) count (place_at base first q below past).0 near, (place_at base first q below past).1) in
        all-append (IsEntry count) (steps.built_place packages s (turned_on Target) with_dev base holds) (steps.built_from packages s turned_on with_dev (base + place_count) ts)
        (place_is (turned_on Target) base count holds (package_at place_count base) at) (targets_is (base + place_count) count ts (omega arith) more)

    targets_long : (base : ℕ) (ts : List (Text → Bool)) → length (steps.built_from packages s turned_on with_dev base ts) ≡ length ts * place_count
    targets_long base [] = zero_times place_count
    targets_long base (holds ∷ ts) =
        let place = steps.built_place packages s (turned_on Target) with_dev base holds in
        length-append place (steps.built_from packages s turned_on with_dev (base + place_count) ts)
        ∙ ap (λ z. z + length (steps.built_from packages s turned_on with_dev (base + place_count) ts)) (length-each_from (steps.built_entry (steps.macros_of packages) s (turned_on Target) with_dev base holds) 0 packages)
        ∙ ap (λ z. place_count + z) (targets_long (base + place_count) ts) ∙ plus_comm place_count (length ts * place_count) ∙ sym (suc-mul (length ts) place_count)

pub built_tables : (w : WorkspaceText) (s : SettingsText) (turned_on : Side → ℕ → Text → Bool) (with_dev : ℕ → Bool) → IsWorkspace w → length w.packages + length s.targets * length w.packages < 2 ^ 64 → is_ok (tables_of (rows_of (steps.built_entries w s turned_on with_dev))) ≡ true
built_tables w s turned_on with_dev is small =
    let n = length w.packages in
    let host = steps.built_place w.packages s (turned_on (steps.side_of s.split true)) with_dev 0 s.host in
    let targets = steps.built_from w.packages s turned_on with_dev n s.targets in
    let count = n + length s.targets * n in
    let long : length (host ++ targets) ≡ count = length-append host targets
    ∙ ap (λ z. z + length targets) (length-each_from (steps.built_entry (steps.macros_of w.packages) s (turned_on (steps.side_of s.split true)) with_dev 0 s.host) 0 w.packages)
    ∙ ap (λ z. n + z) (targets_long w.packages s with_dev is.1 turned_on n s.targets) in
    let at : (first : Bool) (q : ℕ) → q < n → ((if first then 0 else 0) + q < count) × (package_at n n ((if first then 0 else 0) + q) ≡ q) = λ first q below. (below_more _ (0 + n) count (host_at w.packages s with_dev is.1 first q below).0 (omega arith), (host_at w.packages s with_dev is.1 first q below).1) in
    tables_from (host ++ targets) count long small
    (all-append (IsEntry count) host targets (place_is w.packages s with_dev is.1 (turned_on (steps.side_of s.split true)) 0 count s.host (package_at n n) at) (targets_is w.packages s with_dev is.1 turned_on n count s.targets (omega arith) (omega arith)))
