-- Step `built` stays within each set of packages that follows declarations.
use Rattle.std.proofs.Common.{◌≡◌, ⊎_elim, ℕ, zero, suc, ◌+◌, ◌*◌, ◌<◌, ◌≤◌, List, [], ◌∷◌, ◌++◌, Bool, true, false, Option, None, Some, length, refl, ap, sym, ◌∙◌, subst, arith, length-append, if◌then◌else◌}
use Rattle.std.specs.Prelude.{◌%◌, ◌||◌, ◌&&◌, ◌==◌, Contains, IsTrue, slice_get, option_and_then, option_map}
use Rattle.std.specs.List.{list_all, AllByRecursion}
use Rattle.std.proofs.Math.Nat.{suc-mul}
use Rattle.std.proofs.lemmas.Bool.{eqb-true}
use Rattle.std.proofs.lemmas.List.Elements.{Contains-append_cases}
use Rattle.std.proofs.lemmas.Nat.{mod-mul-add}
use Rattle.std.proofs.lemmas.Option.{slice_get_within}
use Rattle.feature_labels.specs.Names.{LabelName}
use Rattle.feature_labels.specs.Names.LabelName.{base}
use Rattle.feature_core.proofs.AddsLemmas.{Contains-none, place_of_element}
use Rattle.feature_core.proofs.Places.{get_cases, got_map}
use Rattle.cargo_workspaces.specs.Workspaces.{DeclarationText, IsPackage, IsWorkspace, PackageText, Text, WorkspaceText, has_script, is_proc_macro, is_within}
use Rattle.plan_rows.specs.Steps as steps
use Rattle.plan_rows.specs.Steps.{SettingsText}
use Rattle.plan_rows.specs.Tables.{Dependency, Entry, each_from, flag_at}
use Rattle.plan_rows.specs.declared.side.Side.{Side}
use Rattle.plan_rows.specs.declared.side.Side.TheVariants.{Target}
use Rattle.plan_rows.proofs.EntryLemmas.{length-each_from}
use Rattle.plan_rows.proofs.EntryRules.{number_is}
use Rattle.cargo_plans.specs.plan_starts.PackageVisits.{PairVisit}
use Rattle.cargo_plans.specs.plan_starts.Starts.{is_among, start_flags, start_places, starts_of, started, starts_on_host, times}
use Rattle.cargo_plans.specs.plan_starts.Targets.{TargetRules, builds}
use Rattle.cargo_plans.specs.plan_units.Units.{UnitText, features_on, target_units, units_at, units_of}
use Rattle.cargo_plans.specs.declared.plan_units.unit.Place.{Place}
use Rattle.cargo_plans.specs.declared.plan_units.unit.Place.TheVariants as spot
use Rattle.plan_starts.specs.step_visits.Visits.{Visit, reaches}
use Rattle.laws.specs.plans.Laws.{FollowsDeclarations}
use Rattle.laws.proofs.EntryLinks.{AreWithin}
use Rattle.laws.proofs.Members.{both_true, either_true, from_filter_map, member_any, one_if}
use Rattle.laws.proofs.Numbered.{each_back, flag_there, joined_back}

zero_plus : (n : ℕ) → 0 + n ≡ n
zero_plus n = omega arith

plus_assoc : (a b c : ℕ) → a + b + c ≡ a + (b + c)
plus_assoc a b c = omega arith

one_further : (a n : ℕ) → a * n + n ≡ suc a * n
one_further a n = sym (suc-mul a n)

-- a package at a place among packages of which all have a property
pub all_place : {X : Type 0} (R : X → Type 0) (xs : List X) (m : ℕ) (x : X) → AllByRecursion R xs → slice_get xs m ≡ Some x → R x
all_place R [] m x a h = absurd (cc)
all_place R (y ∷ ys) zero x a h = let same : y ≡ x = cc in subst R same a.0
all_place R (y ∷ ys) (suc m) x a h = all_place R ys m x a.1 h

-- a member of a list of which all pass
pub all_member : {X : Type 0} (p : X → Bool) (xs : List X) (x : X) → list_all p xs ≡ true → Contains xs x → p x ≡ true
all_member {X} p xs x a h = let q = place_of_element xs x h in go xs q.0 a q.1
  where
    go : (xs : List X) (k : ℕ) → list_all p xs ≡ true → slice_get xs k ≡ Some x → p x ≡ true
    go [] k a e = absurd (cc)
    go (y ∷ ys) zero a e = let same : y ≡ x = cc in ap p (sym same) ∙ (both_true (p y) (list_all p ys) a).0
    go (y ∷ ys) (suc k) a e = go ys k (both_true (p y) (list_all p ys) a).1 e

within_some : (n q : ℕ) → is_within n (Some q) ≡ true → q < n
within_some n q h = grind arith

module _ (w : WorkspaceText) (is : IsWorkspace w) (P : ℕ → Bool) (follows : FollowsDeclarations w P) where
  abbrev pub count : ℕ
  count = length w.packages

  -- whether an entry's package is in the set
  abbrev pub in_place : ℕ → Bool
  in_place m = P (m % count)

  at_entry : (a q : ℕ) → q < count → in_place (a * count + q) ≡ P q
  at_entry a q below = ap P (mod-mul-add a count q below)

  -- a dependency of entry `m` leads to an entry below `limit`, and to one of the set from one of the set
  abbrev Stays : ℕ → ℕ → Entry → Type 0
  Stays limit m e = (d : Dependency) → Contains e.dependencies d → (d.to < limit) × (IsTrue (in_place m) → IsTrue (in_place d.to))

  module _ (s : SettingsText) (with_dev : ℕ → Bool) (limit : ℕ) where
    -- the place to which a declaration leads
    lands_at : (a q : ℕ) (first : Bool) → q < count → a * count + count ≤ limit → ((if first then 0 else a * count) + q < limit) × (in_place ((if first then 0 else a * count) + q) ≡ P q)
    lands_at a q true below room =
        let inside : 0 + q < limit = omega arith in
        let host : 0 + q ≡ 0 * count + q = ap (λ z. z + q) (let none : 0 ≡ 0 * count = omega arith in none) in
        (inside, ap in_place host ∙ at_entry 0 q below)
    lands_at a q false below room =
        let inside : a * count + q < limit = omega arith in
        (inside, at_entry a q below)

    module _ (on : ℕ → Text → Bool) (a : ℕ) (room : a * count + count ≤ limit) (holds : Text → Bool) where
      abbrev lead : ℕ → PackageText → DeclarationText → ℕ → Option ℕ
      lead p x = steps.built_lead (steps.macros_of w.packages) s on with_dev (a * count) holds (has_script x) p

      led : (p q to : ℕ) (x : PackageText) (d : DeclarationText) → slice_get w.packages p ≡ Some x → Contains x.declarations d → d.leads_to ≡ Some q → lead p x d q ≡ Some to → (to < limit) × (IsTrue (in_place (a * count + p)) → IsTrue (in_place to))
      led p q to x d there member leads is_lead =
          let macro = flag_at (steps.macros_of w.packages) q in
          let first = steps.is_build d.kind || macro in
          let same : (if first then 0 else a * count) + q ≡ to = number_is (steps.used s on with_dev (a * count) holds (has_script x) p d) (steps.place_to (a * count) d macro + q) to is_lead in
          let described = all_place (IsPackage count) w.packages p x is.1 there in
          let within : is_within count d.leads_to ≡ true = all_member (λ e. is_within count e.leads_to) x.declarations d described.2 member in
          let below : q < count = within_some count q (ap (is_within count) (sym leads) ∙ within) in
          let own : p < count = slice_get_within w.packages p x there in
          let r = lands_at a q first below room in
          let next : (to < limit) × (in_place to ≡ P q) = subst (λ z. (z < limit) × (in_place z ≡ P q)) same r in
          (next.0, λ h. next.1 ∙ follows p q x d there member leads (sym (at_entry a p own) ∙ h))

      entry_stays : (p : ℕ) (x : PackageText) → slice_get w.packages p ≡ Some x → Stays limit (a * count + p) (steps.built_entry (steps.macros_of w.packages) s on with_dev (a * count) holds p x)
      entry_stays p x there d h =
          let m = from_filter_map (λ e. option_map (steps.dependency_as true e) (steps.lead_by (lead p x) e)) x.declarations d h in
          let g = got_map (steps.dependency_as true m.0) (steps.lead_by (lead p x) m.0) d m.2 in
          let to : g.0 ≡ d.to = ap (λ (z : Dependency). z.to) g.2 in
          subst (λ z. (z < limit) × (IsTrue (in_place (a * count + p)) → IsTrue (in_place z))) to (go m.0 m.1 g.0 m.0.leads_to refl g.1)
        where
          go : (e : DeclarationText) → Contains x.declarations e → (to : ℕ) (o : Option ℕ) → e.leads_to ≡ o → option_and_then (lead p x e) o ≡ Some to → (to < limit) × (IsTrue (in_place (a * count + p)) → IsTrue (in_place to))
          go e member to None leads i = absurd (cc)
          go e member to (Some q) leads i = led p q to x e there member leads i

      place_stays : (m : ℕ) (e : Entry) → slice_get (steps.built_place w.packages s on with_dev (a * count) holds) m ≡ Some e → Stays limit (a * count + m) e
      place_stays m e h =
          let r = each_back (steps.built_entry (steps.macros_of w.packages) s on with_dev (a * count) holds) 0 w.packages m e h in
          let f = steps.built_entry (steps.macros_of w.packages) s on with_dev (a * count) holds in
          let is_entry : f m r.item ≡ e = ap (λ n. f n r.item) (sym (zero_plus m)) ∙ r.is in
          subst (Stays limit (a * count + m)) is_entry (entry_stays m r.item r.there)

    place_long : (on : ℕ → Text → Bool) (b : ℕ) (holds : Text → Bool) → length (steps.built_place w.packages s on with_dev b holds) ≡ count
    place_long on b holds = length-each_from (steps.built_entry (steps.macros_of w.packages) s on with_dev b holds) 0 w.packages

    module _ (turned_on : Side → ℕ → Text → Bool) where
      more_room : (a k : ℕ) → a * count + suc k * count ≤ limit → suc a * count + k * count ≤ limit
      more_room a k h = let one = one_further a count in let two = suc-mul k count in omega (arith, one, two, h)

      near_room : (a k : ℕ) → a * count + suc k * count ≤ limit → a * count + count ≤ limit
      near_room a k h = let two = suc-mul k count in omega (arith, two, h)

      targets_stay : (a : ℕ) (ts : List (Text → Bool)) → a * count + length ts * count ≤ limit → (m : ℕ) (e : Entry) → slice_get (steps.built_from w.packages s turned_on with_dev (a * count) ts) m ≡ Some e → Stays limit (a * count + m) e
      targets_stay a [] room m e h = absurd (cc)
      targets_stay a (holds ∷ ts) room m e h =
          let here = steps.built_place w.packages s (turned_on Target) with_dev (a * count) holds in
          let rest = steps.built_from w.packages s turned_on with_dev (a * count + count) ts in
          ⊎_elim
          (λ i. place_stays (turned_on Target) a (near_room a (length ts) room) holds m e i)
          (λ i.
          let next = targets_stay (suc a) ts (more_room a (length ts) room) i.0 e (subst (λ b. slice_get (steps.built_from w.packages s turned_on with_dev b ts) i.0 ≡ Some e) (one_further a count) i.2) in
          let long : length here ≡ count = place_long (turned_on Target) (a * count) holds in
          let number : suc a * count + i.0 ≡ a * count + m = further a i.0 m (length here) long i.1 in
          subst (λ n. Stays limit n e) number next)
          (get_cases here rest m e h)
        where
          further : (a j m size : ℕ) → size ≡ count → m ≡ size + j → suc a * count + j ≡ a * count + m
          further a j m size long is = let one = one_further a count in omega (arith, one, long, is)

      targets_long : (b : ℕ) (ts : List (Text → Bool)) → length (steps.built_from w.packages s turned_on with_dev b ts) ≡ length ts * count
      targets_long b [] = let none : 0 ≡ 0 * count = omega arith in none
      targets_long b (holds ∷ ts) =
          let here = steps.built_place w.packages s (turned_on Target) with_dev b holds in
          let rest = steps.built_from w.packages s turned_on with_dev (b + count) ts in
          let more : length rest ≡ length ts * count = targets_long (b + count) ts in
          let one : length here ≡ count = place_long (turned_on Target) b holds in
          let all : suc (length ts) * count ≡ length ts * count + count = suc-mul (length ts) count in
          length-append here rest ∙ sums (length here) (length rest) (length ts * count) (suc (length ts) * count) one more all
        where
          sums : (a b c d : ℕ) → a ≡ count → b ≡ c → d ≡ c + count → a + b ≡ d
          sums a b c d x y z = omega (arith, x, y, z)

  module _ (s : SettingsText) (turned_on : Side → ℕ → Text → Bool) (with_dev : ℕ → Bool) where
    abbrev entries : List Entry
    entries = steps.built_entries w s turned_on with_dev

    abbrev host : List Entry
    host = steps.built_place w.packages s (turned_on (steps.side_of s.split true)) with_dev 0 s.host

    abbrev others : List Entry
    others = steps.built_from w.packages s turned_on with_dev (length w.packages) s.targets

    abbrev total : ℕ
    total = count + length s.targets * count

    entries_long : length entries ≡ total
    entries_long =
        let one : length host ≡ count = place_long s with_dev total (turned_on (steps.side_of s.split true)) 0 s.host in
        let more : length others ≡ length s.targets * count = targets_long s with_dev total turned_on (length w.packages) s.targets in
        length-append host others ∙ sums (length host) (length others) (length s.targets * count) one more
      where
        sums : (a b c : ℕ) → a ≡ count → b ≡ c → a + b ≡ count + c
        sums a b c x y = omega (arith, x, y)

    no_base : 0 ≡ 0 * count
    no_base = omega arith

    one_base : length w.packages ≡ 1 * count
    one_base = omega arith

    entries_stay : (m : ℕ) (e : Entry) → slice_get entries m ≡ Some e → Stays total m e
    entries_stay m e h = ⊎_elim
        (λ i.
        let on = turned_on (steps.side_of s.split true) in
        let at = subst (λ b. slice_get (steps.built_place w.packages s on with_dev b s.host) m ≡ Some e) no_base i in
        let r = place_stays s with_dev total on 0 first_room s.host m e at in
        subst (λ n. Stays total n e) (first_number m) r)
        (λ i.
        let at = subst (λ b. slice_get (steps.built_from w.packages s turned_on with_dev b s.targets) i.0 ≡ Some e) one_base i.2 in
        let r = targets_stay s with_dev total turned_on 1 s.targets rest_room i.0 e at in
        let long : length host ≡ count = place_long s with_dev total (turned_on (steps.side_of s.split true)) 0 s.host in
        subst (λ n. Stays total n e) (rest_number i.0 m (length host) long i.1) r)
        (get_cases host others m e h)
      where
        first_room : 0 * count + count ≤ total
        first_room = let none = no_base in omega (arith, none)

        rest_room : 1 * count + length s.targets * count ≤ total
        rest_room = let one = one_base in omega (arith, one)

        first_number : (m : ℕ) → 0 * count + m ≡ m
        first_number m = let none = no_base in omega (arith, none)

        rest_number : (j m size : ℕ) → size ≡ count → m ≡ size + j → 1 * count + j ≡ m
        rest_number j m size long is = let one = one_base in omega (arith, one, long, is)

    pub entries_within : AreWithin entries
    entries_within m e d h i = subst (λ n. d.to < n) (sym entries_long) (entries_stay m e h d i).0

    pub entries_follow : (m : ℕ) (e : Entry) (d : Dependency) → slice_get entries m ≡ Some e → Contains e.dependencies d → IsTrue (in_place m) → IsTrue (in_place d.to)
    entries_follow m e d h i q = (entries_stay m e h d i).1 q

  -- Starts.

  module _ (r : TargetRules) (packages : r.packages ≡ w.packages) (selected : List ℕ) (chosen : (p : ℕ) → Contains selected p → IsTrue (P p)) where
    among : (p : ℕ) → is_among selected p ≡ true → IsTrue (P p)
    among p h =
        let m = member_any (λ n. n == p) selected h in
        subst (λ z. IsTrue (P z)) (eqb-true m.element p m.passes) (chosen m.element m.member)

    started_in : (macros : Bool) (p : ℕ) → slice_get (started r selected false macros) p ≡ Some true → IsTrue (P p)
    started_in macros p h =
        let e = each_back (λ p x. is_among selected p && builds r false macros p x) 0 r.packages p true h in
        let parts = both_true (is_among selected (0 + p)) (builds r false macros (0 + p) e.item) e.is in
        subst (λ z. IsTrue (P z)) (zero_plus p) (among (0 + p) parts.0)

    hosts_in : (p : ℕ) → slice_get (starts_of r selected).hosts p ≡ Some true → IsTrue (P p)
    hosts_in p h =
        let ms = started r selected false true in
        let os = started r selected false false in
        let e = each_back (starts_on_host ms os) 0 r.packages p true h in
        subst (λ z. IsTrue (P z)) (zero_plus p)
        (⊎_elim
        (λ i. started_in true (0 + p) (flag_there ms (0 + p) i))
        (λ i. started_in false (0 + p) (flag_there os (0 + p) (both_true (flag_at os (0 + p)) (is_proc_macro e.item) i).0))
        (either_true (flag_at ms (0 + p)) (flag_at os (0 + p) && is_proc_macro e.item) e.is))

    flags_long : (flags : List Bool) (f : ℕ → PackageText → Bool) → flags ≡ each_from f 0 r.packages → length flags ≡ count
    flags_long flags f e = ap length e ∙ length-each_from f 0 r.packages ∙ ap length packages

    -- a flag that is set in one of the places
    times_in : (n a : ℕ) (flags : List Bool) → length flags ≡ count → ((p : ℕ) → slice_get flags p ≡ Some true → IsTrue (P p)) → (m : ℕ) → slice_get (times n flags) m ≡ Some true → IsTrue (in_place (a * count + m))
    times_in zero a flags long each m h = absurd (cc)
    times_in (suc n) a flags long each m h = ⊎_elim
        (λ i. let below : m < count = subst (λ z. m < z) long (slice_get_within flags m true i) in at_entry a m below ∙ each m i)
        (λ i. subst (λ z. IsTrue (in_place z)) (further i.0 (length flags) long i.1) (times_in n (suc a) flags long each i.0 i.2))
        (get_cases flags (times n flags) m true h)
      where
        further : (j size : ℕ) → size ≡ count → m ≡ size + j → suc a * count + j ≡ a * count + m
        further j size long is = let one = one_further a count in omega (arith, one, long, is)

    pub starts_in : (targets : ℕ) (x : ℕ × LabelName) → Contains (start_places targets (starts_of r selected)) x → IsTrue (in_place x.0)
    starts_in targets x h =
        let st = starts_of r selected in
        let flags = start_flags targets st in
        let j = joined_back (λ k flag. if flag then (k, base) ∷ [] else []) 0 flags x h in
        let one = one_if j.item (0 + j.place, base) x j.member in
        let number : j.place ≡ x.0 = sym (zero_plus j.place) ∙ ap (λ (z : ℕ × LabelName). z.0) one.1 in
        let at : slice_get flags j.place ≡ Some true = j.there ∙ ap Some one.0 in
        subst (λ z. IsTrue (in_place z)) number (flagged j.place at)
      where
        first_number : (m : ℕ) → 0 * count + m ≡ m
        first_number m = let none : 0 ≡ 0 * count = omega arith in omega (arith, none)

        rest_number : (j m size : ℕ) → size ≡ count → m ≡ size + j → 1 * count + j ≡ m
        rest_number j m size long is = let one : count ≡ 1 * count = omega arith in omega (arith, one, long, is)

        flagged : (m : ℕ) → slice_get ((starts_of r selected).hosts ++ times targets (starts_of r selected).others) m ≡ Some true → IsTrue (in_place m)
        flagged m i =
            let st = starts_of r selected in
            let ms = started r selected false true in
            let os = started r selected false false in
            let host_long : length st.hosts ≡ count = flags_long st.hosts (starts_on_host ms os) refl in
            let other_long : length st.others ≡ count = flags_long st.others (λ p x. is_among selected p && builds r false false p x) refl in
            ⊎_elim
            (λ k. let below : m < count = subst (λ z. m < z) host_long (slice_get_within st.hosts m true k) in subst (λ z. IsTrue (in_place z)) (first_number m) (at_entry 0 m below ∙ hosts_in m k))
            (λ k. subst (λ z. IsTrue (in_place z)) (rest_number k.0 m (length st.hosts) host_long k.1) (times_in targets 1 st.others other_long (started_in false) k.0 k.2))
            (get_cases st.hosts (times targets st.others) m true i)

  -- Units.

  module _ (on : PairVisit) (built : Visit) (reached : (k : ℕ) → IsTrue (reaches built k base) → IsTrue (in_place k)) where
    place_units : (a : ℕ) (where_to : Place) (side : Side) (u : UnitText) → Contains (units_at on built where_to side (a * count) w.packages) u → IsTrue (P u.number)
    place_units a where_to side u h =
        let make : ℕ → PackageText → UnitText = λ p x. record { place = where_to; number = p; features = features_on on side p x } in
        let j = joined_back (λ p x. if reaches built (a * count + p) base then make p x ∷ [] else []) 0 w.packages u h in
        let one = one_if (reaches built (a * count + (0 + j.place)) base) (make (0 + j.place) j.item) u j.member in
        let number : j.place ≡ u.number = sym (zero_plus j.place) ∙ ap (λ (z : UnitText). z.number) one.1 in
        let below : j.place < count = slice_get_within w.packages j.place j.item j.there in
        let there : IsTrue (in_place (a * count + j.place)) = reached (a * count + j.place) (ap (λ n. reaches built (a * count + n) base) (sym (zero_plus j.place)) ∙ one.0) in
        subst (λ z. IsTrue (P z)) number (sym (at_entry a j.place below) ∙ there)

    targets_units : (k a n : ℕ) (u : UnitText) → Contains (target_units on built w.packages k (a * count) n) u → IsTrue (P u.number)
    targets_units k a zero u h = absurd (Contains-none u h)
    targets_units k a (suc n) u h = ⊎_elim
        (λ i. place_units a (spot.Target k) Target u i)
        (λ i. targets_units (k + 1) (suc a) n u (subst (λ b. Contains (target_units on built w.packages (k + 1) b n) u) (one_further a count) i))
        (Contains-append_cases (units_at on built (spot.Target k) Target (a * count) w.packages) (target_units on built w.packages (k + 1) (a * count + length w.packages) n) u h)

    pub units_in : (split : Bool) (targets : ℕ) (u : UnitText) → Contains (units_of split on built w.packages targets) u → IsTrue (P u.number)
    units_in split targets u h = ⊎_elim
        (λ i. place_units 0 spot.Host (steps.side_of split true) u (subst (λ b. Contains (units_at on built spot.Host (steps.side_of split true) b w.packages) u) no_base i))
        (λ i. targets_units 0 1 targets u (subst (λ b. Contains (target_units on built w.packages 0 b targets) u) one_base i))
        (Contains-append_cases (units_at on built spot.Host (steps.side_of split true) 0 w.packages) (target_units on built w.packages 0 (length w.packages) targets) u h)
      where
        no_base : 0 ≡ 0 * count
        no_base = omega arith

        one_base : length w.packages ≡ 1 * count
        one_base = omega arith
