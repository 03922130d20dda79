-- The entries of the steps, for more command features, and for more that is kept and on.
use Rattle.std.proofs.Common.{◌≡◌, ◌⊎◌, inl, inr, ⊎_elim, ℕ, zero, suc, ◌+◌, ◌*◌, ◌<◌, List, [], ◌∷◌, ◌++◌, Bool, true, false, not, Option, None, Some, length, map, refl, ap, sym, ◌∙◌, subst, arith, length-append, bytes_eq, eq-eqb}
use Rattle.std.specs.Prelude.{◌%◌, ◌==◌, ◌&&◌, ◌||◌, Contains, flat_map, is_some, nat_lt, option_and_then, option_map, slice_get}
use Rattle.std.specs.Cmp.Lexicographic.{bytes_decides}
use Rattle.std.specs.List.{cons_option, filter_map, list_any, AllByRecursion}
use Rattle.std.proofs.lemmas.List.Elements.{Contains-append_cases, Contains-append_left, Contains-append_right}
use Rattle.std.proofs.lemmas.Nat.{mod-mul-add}
use Rattle.guppy_packages.specs.Items.{item_of}
use Rattle.cargo_workspaces.specs.Workspaces.{DeclarationText, FeatureText, IsPackage, IsWorkspace, PackageText, Text, WorkspaceText}
use Rattle.feature_core.proofs.AddsLemmas.{Contains-cases, Contains-first, Contains-later, Contains-none, place_of_element}
use Rattle.feature_core.proofs.Places.{get_cases, get_left, get_right, got_map}
use Rattle.plan_rows.specs.Commands.{command_of, is_started}
use Rattle.plan_rows.specs.Steps as steps
use Rattle.plan_rows.specs.Steps.{SettingsText}
use Rattle.plan_rows.specs.Tables.{Dependency, Entry, each_from}
use Rattle.plan_rows.proofs.EntryLemmas.{length-each_from}
use Rattle.plan_rows.proofs.EntryRules.{entry_is, number_is}
use Rattle.plan_rows.proofs.LinkFaults.{is_renamed}
use Rattle.laws.specs.plans.Growth.{CommandsGrow, with_commands}
use Rattle.laws.proofs.BuiltStep.{all_member, all_place}
use Rattle.laws.proofs.EntryGrowth.{HasOneName, HaveMore, IsMoreEntry}
use Rattle.laws.proofs.EntryLinks.{AreWithin}
use Rattle.laws.proofs.Members.{any_member, from_filter_map, same_some}
use Rattle.laws.proofs.Numbered.{each_back}

zero_plus : (n : ℕ) → 0 + n ≡ n
zero_plus n = omega arith

pub two_true : (a b : Bool) → a ≡ true → b ≡ true → (a && b) ≡ true
two_true a b x y = rw (x, y) refl

-- Lists.

some_there : {Y : Type 0} (o : Option Y) (y : Y) (ys : List Y) → o ≡ Some y → Contains (cons_option o ys) y
some_there None y ys e = absurd (cc)
some_there (Some z) y ys e = subst (λ v. Contains (z ∷ ys) v) (same_some z y e) (Contains-first z ys)

some_later : {Y : Type 0} (o : Option Y) (y : Y) (ys : List Y) → Contains ys y → Contains (cons_option o ys) y
some_later None y ys h = h
some_later (Some z) y ys h = Contains-later z ys y h

pub into_filter_map : {X Y : Type 0} (f : X → Option Y) (xs : List X) (x : X) (y : Y) → Contains xs x → f x ≡ Some y → Contains (filter_map f xs) y
into_filter_map f [] x y h e = absurd (Contains-none x h)
into_filter_map f (z ∷ xs) x y h e = ⊎_elim
    (λ i. some_there (f z) y (filter_map f xs) (ap f i ∙ e))
    (λ i. some_later (f z) y (filter_map f xs) (into_filter_map f xs x y i e))
    (Contains-cases z xs x h)

flat_more : {X Y : Type 0} (f : X → List Y) (xs ys : List X) → ((x : X) → Contains xs x → Contains ys x) → (y : Y) → Contains (flat_map f xs) y → Contains (flat_map f ys) y
flat_more {X} {Y} f xs ys more y h = let r = back xs h in into ys r.0 (more r.0 r.1) r.2
  where
    back : (xs : List X) → Contains (flat_map f xs) y → (x : X) × Contains xs x × Contains (f x) y
    back [] h = absurd (Contains-none y h)
    back (x ∷ xs) h = ⊎_elim
        (λ i. (x, Contains-first x xs, i))
        (λ i. let r = back xs i in (r.0, Contains-later x xs r.0 r.1, r.2))
        (Contains-append_cases (f x) (flat_map f xs) y h)

    into : (ys : List X) (x : X) → Contains ys x → Contains (f x) y → Contains (flat_map f ys) y
    into [] x c i = absurd (Contains-none x c)
    into (z ∷ ys) x c i = ⊎_elim
        (λ e. Contains-append_left (f z) (flat_map f ys) y (subst (λ v. Contains (f v) y) (sym e) i))
        (λ j. Contains-append_right (f z) (flat_map f ys) y (into ys x j i))
        (Contains-cases z ys x c)

pub each_there : {X Y : Type 0} (f : ℕ → X → Y) (k : ℕ) (xs : List X) (m : ℕ) (x : X) → slice_get xs m ≡ Some x → slice_get (each_from f k xs) m ≡ Some (f (k + m) x)
each_there f k [] m x h = absurd (cc)
each_there f k (y ∷ ys) zero x h =
    let first : k ≡ k + zero = omega arith in
    ap (λ z. Some (f k z)) (same_some y x h) ∙ ap (λ n. Some (f n x)) first
each_there f k (y ∷ ys) (suc m) x h =
    let next : k + 1 + m ≡ k + suc m = omega arith in
    each_there f (k + 1) ys m x h ∙ ap (λ n. Some (f n x)) next

all_contained : {X : Type 0} (P : X → Type 0) (xs : List X) (x : X) → AllByRecursion P xs → Contains xs x → P x
all_contained P xs x a h = let q = place_of_element xs x h in all_place P xs q.0 x a q.1

less_is : (n m : ℕ) → nat_lt n m ≡ true → n < m
less_is n m h = grind arith

-- What holds of the dependencies of an entry.

to_as : (plain : Bool) (d : DeclarationText) (t : ℕ) → (steps.dependency_as plain d t).to ≡ t
to_as true d t = refl
to_as false d t = refl

module _ (n count : ℕ) (plain : Bool) (lead : DeclarationText → ℕ → Option ℕ) (leads : (d : DeclarationText) (q t : ℕ) → q < n → lead d q ≡ Some t → (t < count) × (t % n ≡ q)) (x : PackageText) (is : IsPackage n x) where
  abbrev deps : List Dependency
  deps = steps.dependencies_by plain lead x.declarations

  pub below : (d : Dependency) → Contains deps d → d.to < count
  below d c =
      let rules = entry_is n count plain lead (λ t. t % n) leads x [] is tt in
      less_is d.to count (all_member (λ (e : Dependency). nat_lt e.to count) deps d rules.1 c)

  pub one_named : (c d : Dependency) → Contains deps c → Contains deps d → c.to ≡ d.to → c.name ≡ d.name
  one_named c d h k to =
      let rules = entry_is n count plain lead (λ t. t % n) leads x [] is tt in
      let none : list_any (is_renamed c) deps ≡ false = all_contained (λ (e : Dependency). list_any (is_renamed e) deps ≡ false) deps c rules.2 h in
      go (bytes_eq c.name d.name) refl none
    where
      go : (b : Bool) → bytes_eq c.name d.name ≡ b → list_any (is_renamed c) deps ≡ false → c.name ≡ d.name
      go true e none = (bytes_decides c.name d.name).0 e
      go false e none =
          let renamed : is_renamed c d ≡ true = two_true (c.to == d.to) (not (bytes_eq c.name d.name)) (eq-eqb c.to d.to to) (ap not e) in
          let some : list_any (is_renamed c) deps ≡ true = any_member (is_renamed c) deps d k renamed in
          let clash : false ≡ true = sym none ∙ some in
          absurd (cc)

-- a dependency that leads somewhere leads there too
pub deps_more : (plain : Bool) (lead other : DeclarationText → ℕ → Option ℕ) (ds : List DeclarationText) → ((d : DeclarationText) → Contains ds d → (q t : ℕ) → lead d q ≡ Some t → other d q ≡ Some t) → (d : Dependency) → Contains (steps.dependencies_by plain lead ds) d → Contains (steps.dependencies_by plain other ds) d
deps_more plain lead other ds more d h =
    let m = from_filter_map (λ e. option_map (steps.dependency_as plain e) (steps.lead_by lead e)) ds d h in
    let g = got_map (steps.dependency_as plain m.0) (steps.lead_by lead m.0) d m.2 in
    let there : steps.lead_by other m.0 ≡ Some g.0 = go m.0 g.0 m.1 m.0.leads_to g.1 in
    into_filter_map (λ e. option_map (steps.dependency_as plain e) (steps.lead_by other e)) ds m.0 d m.1 (ap (option_map (steps.dependency_as plain m.0)) there ∙ ap Some g.2)
  where
    go : (e : DeclarationText) (t : ℕ) → Contains ds e → (o : Option ℕ) → option_and_then (lead e) o ≡ Some t → option_and_then (other e) o ≡ Some t
    go e t c None i = absurd (cc)
    go e t c (Some q) i = more e c q t i

-- a number that is there if a test passes is there if another does that passes then
pub number_more : (a b : Bool) (n t : ℕ) → (a ≡ true → b ≡ true) → steps.number_if a n ≡ Some t → steps.number_if b n ≡ Some t
number_more true b n t more h = ap (λ z. steps.number_if z n) (more refl) ∙ h
number_more false b n t more h = absurd (cc)

abbrev pub everywhere : ℕ → Bool
everywhere m = true

module _ (w : WorkspaceText) (is : IsWorkspace w) (s : SettingsText) (commands : List (Option FeatureText)) (grow : CommandsGrow s.commands commands) where
  abbrev count : ℕ
  count = length w.packages

  abbrev more : SettingsText
  more = with_commands s commands

  package_is : (m : ℕ) (x : PackageText) → slice_get w.packages m ≡ Some x → IsPackage count x
  package_is m x h = all_place (IsPackage count) w.packages m x is.1 h

  pub started_more : (p : ℕ) → is_started s.commands p ≡ true → is_started commands p ≡ true
  started_more p h = go (command_of s.commands p) refl h
    where
      go : (o : Option FeatureText) → command_of s.commands p ≡ o → is_some o ≡ true → is_started commands p ≡ true
      go None e i = absurd (cc)
      go (Some f) e i = ap is_some (grow p f e).1

  -- Step `resolved`.

  resolved_leads : (started : Bool) (d : DeclarationText) (q t : ℕ) → q < count → steps.resolved_lead started d q ≡ Some t → (t < count + count) × (t % count ≡ q)
  resolved_leads started d q t below is_lead =
      let same : q ≡ t = number_is (started || not (steps.is_development d.kind)) q t is_lead in
      let inside : t < count + count = omega arith in
      let first : 0 * count + q ≡ q = omega arith in
      (inside, ap (λ z. z % count) (sym same) ∙ ap (λ z. z % count) (sym first) ∙ mod-mul-add 0 count q below)

  abbrev starts_of : List (Option FeatureText) → ℕ → PackageText → Entry
  starts_of cs p x = steps.started_entry (command_of cs p) x

  gates_more : (f g : FeatureText) → ((i : Text) → Contains f.items i → Contains g.items i) → (i : Text) → Contains (steps.gated_feature f).items i → Contains (steps.gated_feature g).items i
  gates_more f g more i h = flat_more (λ item. steps.gate_of (item_of item) ++ item ∷ []) f.items g.items more i h

  started_entries : (p : ℕ) (x : PackageText) → IsMoreEntry (λ k. k) (starts_of s.commands p x) (starts_of commands p x)
  started_entries p x = go (command_of s.commands p) refl
    where
      go : (o : Option FeatureText) → command_of s.commands p ≡ o → IsMoreEntry (λ k. k) (steps.started_entry o x) (starts_of commands p x)
      go None e = record { features = λ y i. absurd (Contains-none y i); dependencies = λ d i. absurd (Contains-none d i) }
      go (Some f) e =
          let g = grow p f e in
          subst (λ o. IsMoreEntry (λ k. k) (steps.started_entry (Some f) x) (steps.started_entry o x)) (sym g.1) (record {
            features = λ y i. ⊎_elim
                (λ j. (y, Contains-append_left (map steps.gated_feature x.features) (steps.gated_feature g.0 ∷ []) y j, refl, λ k c. c))
                (λ j. let same : steps.gated_feature f ≡ y = ⊎_elim (λ z. z) (λ z. absurd (Contains-none y z)) (Contains-cases (steps.gated_feature f) [] y j) in (
                  steps.gated_feature g.0,
                  Contains-append_right (map steps.gated_feature x.features) (steps.gated_feature g.0 ∷ []) (steps.gated_feature g.0) (Contains-first (steps.gated_feature g.0) []),
                  g.2 ∙ ap (λ (z : FeatureText). z.name) same,
                  λ k c. gates_more f g.0 g.3 k (subst (λ (z : FeatureText). Contains z.items k) (sym same) c),
                ))
                (Contains-append_cases (map steps.gated_feature x.features) (steps.gated_feature f ∷ []) y i);
            dependencies = λ d i. i;
          })

  same_entry : (e : Entry) → IsMoreEntry (λ k. k) e e
  same_entry e = record { features = λ x c. (x, c, refl, λ i k. k); dependencies = λ d c. c }

  resolved_back : (cs : List (Option FeatureText)) (m : ℕ) (e : Entry) → slice_get (steps.resolved_entries w (with_commands s cs)) m ≡ Some e
      → ((p : ℕ) × (x : PackageText) × (m ≡ p) × (slice_get w.packages p ≡ Some x) × (steps.other_entry p x ≡ e)) ⊎ ((p : ℕ) × (x : PackageText) × (m ≡ count + p) × (slice_get w.packages p ≡ Some x) × (starts_of cs p x ≡ e))
  resolved_back cs m e h = ⊎_elim
      (λ i. let r = each_back steps.other_entry 0 w.packages m e i in inl (m, r.item, refl, r.there, r.is))
      (λ i. let r = each_back (starts_of cs) 0 w.packages i.0 e i.2 in
      inr (i.0, r.item, i.1 ∙ ap (λ z. z + i.0) (length-each_from steps.other_entry 0 w.packages), r.there, ap (λ z. starts_of cs z r.item) (sym (zero_plus i.0)) ∙ r.is))
      (get_cases (each_from steps.other_entry 0 w.packages) (each_from (starts_of cs) 0 w.packages) m e h)

  resolved_long : (cs : List (Option FeatureText)) → length (steps.resolved_entries w (with_commands s cs)) ≡ count + count
  resolved_long cs =
      length-append (each_from steps.other_entry 0 w.packages) (each_from (starts_of cs) 0 w.packages)
      ∙ ap (λ z. z + length (each_from (starts_of cs) 0 w.packages)) (length-each_from steps.other_entry 0 w.packages) ∙ ap (λ z. count + z) (length-each_from (starts_of cs) 0 w.packages)

  resolved_rules : (cs : List (Option FeatureText)) (m : ℕ) (e : Entry) → slice_get (steps.resolved_entries w (with_commands s cs)) m ≡ Some e → ((d : Dependency) → Contains e.dependencies d → d.to < count + count) × HasOneName e
  resolved_rules cs m e h = ⊎_elim
      (λ r. let x = package_is r.0 r.1 r.3 in subst Rules r.4 (
        below count (count + count) false (steps.resolved_lead false) (resolved_leads false) r.1 x,
        one_named count (count + count) false (steps.resolved_lead false) (resolved_leads false) r.1 x,
      ))
      (λ r. subst Rules r.4 (of_started r.1 (package_is r.0 r.1 r.3) (command_of cs r.0)))
      (resolved_back cs m e h)
    where
      Rules : Entry → Type 0
      Rules e = ((d : Dependency) → Contains e.dependencies d → d.to < count + count) × HasOneName e

      of_started : (x : PackageText) → IsPackage count x → (o : Option FeatureText) → Rules (steps.started_entry o x)
      of_started x is_x None = (λ d c. absurd (Contains-none d c), λ c d i j to. absurd (Contains-none c i))
      of_started x is_x (Some f) = (
        below count (count + count) false (steps.resolved_lead true) (resolved_leads true) x is_x,
        one_named count (count + count) false (steps.resolved_lead true) (resolved_leads true) x is_x,
      )

  pub resolved_within : (cs : List (Option FeatureText)) → AreWithin (steps.resolved_entries w (with_commands s cs))
  resolved_within cs m e d h i = subst (λ z. d.to < z) (sym (resolved_long cs)) ((resolved_rules cs m e h).0 d i)

  pub resolved_more : HaveMore (steps.resolved_entries w s) (steps.resolved_entries w more) everywhere (λ k. k)
  resolved_more = record {
    entries = λ m e r h. ⊎_elim
        (λ b. (
          e,
          subst (λ n. slice_get (steps.resolved_entries w more) n ≡ Some e) (sym b.2)
              (get_left (each_from steps.other_entry 0 w.packages) (each_from (starts_of commands) 0 w.packages) b.0 e (each_there steps.other_entry 0 w.packages b.0 b.1 b.3 ∙ ap Some b.4)),
          same_entry e,
        ))
        (λ b.
        let there : slice_get (steps.resolved_entries w more) m ≡ Some (starts_of commands b.0 b.1) =
        get_right (each_from steps.other_entry 0 w.packages) (each_from (starts_of commands) 0 w.packages) m b.0 (b.2 ∙ ap (λ z. z + b.0) (sym (length-each_from steps.other_entry 0 w.packages)))
        ∙ each_there (starts_of commands) 0 w.packages b.0 b.1 b.3 ∙ ap (λ z. Some (starts_of commands z b.1)) (zero_plus b.0) in
        (starts_of commands b.0 b.1, there, subst (λ z. IsMoreEntry (λ k. k) z (starts_of commands b.0 b.1)) b.4 (started_entries b.0 b.1)))
        (resolved_back s.commands m e h);
    stays = λ m e d r h i. refl;
    names = λ m f r h. (resolved_rules commands m f h).1;
  }
