-- Resolvers 1 and 2, where nothing is for the host.
use Rattle.std.proofs.Common.{◌≡◌, ℕ, zero, suc, ◌+◌, List, [], ◌∷◌, ◌++◌, Bool, true, false, Option, codes, length, refl, ap, ap₂, if◌then◌else◌}
use Rattle.std.specs.Prelude.{◌&&◌, ◌||◌, not, Contains, option_and_then, option_map}
use Rattle.std.specs.List.{cons_option, filter_map, list_any}
use Rattle.std.specs.Option.{is_some}
use Rattle.std.specs.Str.{bytes_eq}
use Rattle.feature_core.proofs.AddsLemmas.{Contains-first, Contains-later}
use Rattle.cargo_workspaces.specs.Workspaces.{DeclarationText, PackageText, TargetText, Text, WorkspaceText, has_kind, has_macro_target, is_macro_target, is_proc_macro}
use Rattle.plan_words.specs.TargetChoices.{needs_development}
use Rattle.plan_rows.specs.Commands.{command_of, is_started}
use Rattle.plan_rows.specs.Steps.{SettingsText, admits, admitted, command_list, dependency_as, is_build, is_development, lands, lead_by, macros_of, number_if, on_entry, on_lead, on_side, side_base}
use Rattle.plan_rows.specs.Tables.{Dependency, Entry, each_from, flag_at}
use Rattle.plan_rows.specs.declared.side.Side.{Side}
use Rattle.plan_rows.specs.declared.side.Side.TheVariants.{Target, Host}
use Rattle.cargo_plans.specs.plan_starts.Lists.{joined_from}
use Rattle.cargo_plans.specs.plan_starts.Targets.{has_macro}
use Rattle.cargo_plans.specs.plan_units.Commands.{command_label, command_places, on_starts}
use Rattle.laws.specs.plans.Laws.{AllCountAlike, IsDeclaredAlike, ResolversAgree, with_split}

-- equal values of equal lists
filter_map_same : {X Y : Type 0} (f g : X → Option Y) (xs : List X) → ((x : X) → Contains xs x → f x ≡ g x) → filter_map f xs ≡ filter_map g xs
filter_map_same f g [] h = refl
filter_map_same f g (x ∷ xs) h = ap₂ cons_option (h x (Contains-first x xs)) (filter_map_same f g xs (λ y c. h y (Contains-later x xs y c)))

each_same : {X Y : Type 0} (f g : ℕ → X → Y) (k : ℕ) (xs : List X) → ((n : ℕ) (x : X) → Contains xs x → f n x ≡ g n x) → each_from f k xs ≡ each_from g k xs
each_same f g k [] h = refl
each_same f g k (x ∷ xs) h = ap₂ (λ y ys. y ∷ ys) (h k x (Contains-first x xs)) (each_same f g (k + 1) xs (λ n y c. h n y (Contains-later x xs y c)))

joined_none : {X Y : Type 0} (f : ℕ → X → List Y) (k : ℕ) (xs : List X) → ((n : ℕ) (x : X) → f n x ≡ []) → joined_from f k xs ≡ []
joined_none f k [] h = refl
joined_none f k (x ∷ xs) h = ap₂ (λ y ys. y ++ ys) (h k x) (joined_none f (k + 1) xs h)

none_if : {X : Type 0} (a b : Bool) (x : X) → b ≡ false → ◌≡◌ {A = List X} (if a && b then x ∷ [] else []) []
none_if true true x h = absurd (cc)
none_if false true x h = refl
none_if true false x h = refl
none_if false false x h = refl

-- the tests of a declaration, with resolver 2 and with resolver 1
tests_same : (a dev started test build host platform : Bool) → build ≡ false → (dev ≡ true → test ≡ true) → platform ≡ true
    → (a && (not dev || started && (test || not true)) && (not true || (if build || false then host else platform))) ≡ (a && (not dev || started && (test || not false)) && (not false || (if build || false then host else platform)))
tests_same a dev started test true host platform x y z = absurd (cc)
tests_same a dev started test false host false x y z = absurd (cc)
tests_same false dev started test false host true x y z = refl
tests_same true false started test false host true x y z = refl
tests_same true true started true false host true x y z = refl
tests_same true true started false false host true x y z = let e : false ≡ true = y refl in absurd (cc)

stays : (build macro : Bool) → build ≡ false → macro ≡ false → ◌≡◌ {A = Side} (if true && (build || macro) then Host else Target) Target
stays true macro a b = absurd (cc)
stays false true a b = absurd (cc)
stays false false a b = refl

neither : (a b : Bool) → (a || b) ≡ false → (a ≡ false) × (b ≡ false)
neither true b h = absurd (cc)
neither false b h = (refl, h)

-- no target is a procedural macro
no_library : (ts : List TargetText) → list_any is_macro_target ts ≡ false → list_any (has_kind (codes "proc-macro")) ts ≡ false
no_library [] h = refl
no_library (t ∷ ts) h =
    let parts = neither (is_macro_target t) (list_any is_macro_target ts) h in
    let kind = neither (has_kind (codes "proc-macro") t) (list_any (bytes_eq (codes "proc-macro")) t.crate_types) parts.0 in
    rw (kind.0, no_library ts parts.1) refl

no_flag : (xs : List PackageText) → ((x : PackageText) → Contains xs x → is_proc_macro x ≡ false) → (q : ℕ) → flag_at (macros_of xs) q ≡ false
no_flag [] h q = refl
no_flag (x ∷ xs) h zero = h x (Contains-first x xs)
no_flag (x ∷ xs) h (suc q) = no_flag xs (λ y c. h y (Contains-later x xs y c)) q

no_macro : (xs : List PackageText) → ((x : PackageText) → Contains xs x → has_macro_target x ≡ false) → (q : ℕ) → has_macro xs q ≡ false
no_macro [] h q = refl
no_macro (x ∷ xs) h zero = h x (Contains-first x xs)
no_macro (x ∷ xs) h (suc q) = no_macro xs (λ y c. h y (Contains-later x xs y c)) q

module _ (w : WorkspaceText) (s : SettingsText) (alike : AllCountAlike w s) where
  module _ (kept : ℕ → Text → Bool) where
    same_admitted : (p : ℕ) (d : DeclarationText) → IsDeclaredAlike s d → admitted (with_split s true) kept p Target d ≡ admitted (with_split s false) kept p Target d
    same_admitted p d is =
        tests_same (not d.optional || kept p d.name) (is_development d.kind) (is_started s.commands p) (needs_development s.choice) (is_build d.kind) (admits s.host d.platform) (list_any (λ holds. admits holds d.platform) s.targets) is.0 is.1 is.2

    same_lead : (p : ℕ) (d : DeclarationText) → IsDeclaredAlike s d → (q : ℕ) → on_lead (macros_of w.packages) (with_split s true) kept Target p d q ≡ on_lead (macros_of w.packages) (with_split s false) kept Target p d q
    same_lead p d is q =
        let side : lands true d (flag_at (macros_of w.packages) q) Target ≡ Target = stays (is_build d.kind) (flag_at (macros_of w.packages) q) is.0 (no_flag w.packages (λ x c. no_library x.targets (alike x c).0) q) in
        ap₂ (λ test to. number_if test (side_base (length (macros_of w.packages)) to + q)) (same_admitted p d is) side

    same_entry : (p : ℕ) (x : PackageText) → Contains w.packages x → on_entry (macros_of w.packages) (with_split s true) kept Target p x ≡ on_entry (macros_of w.packages) (with_split s false) kept Target p x
    same_entry p x c =
        let make : List Dependency → Entry = λ ds. record { features = x.features ++ command_list (command_of s.commands p); dependencies = ds } in
        let lead = on_lead (macros_of w.packages) (with_split s true) kept Target p in
        let other = on_lead (macros_of w.packages) (with_split s false) kept Target p in
        ap make (filter_map_same (λ d. option_map (dependency_as false d) (lead_by lead d)) (λ d. option_map (dependency_as false d) (lead_by other d)) x.declarations
        (λ d i. ap (λ (f : ℕ → Option ℕ). option_map (dependency_as false d) (option_and_then f d.leads_to)) (λ j q. same_lead p d ((alike x c).1 d i) q j)))

    same_side : on_side w.packages (with_split s true) kept Target ≡ on_side w.packages (with_split s false) kept Target
    same_side = each_same (on_entry (macros_of w.packages) (with_split s true) kept Target) (on_entry (macros_of w.packages) (with_split s false) kept Target) 0 w.packages same_entry

  same_starts : on_starts w (with_split s true) ≡ on_starts w (with_split s false)
  same_starts =
      let first = command_places (λ p. true) 0 s.commands in
      let none : command_places (has_macro w.packages) (length w.packages) s.commands ≡ [] = joined_none (λ p command. if is_some command && has_macro w.packages p then (length w.packages + p, command_label) ∷ [] else []) 0 s.commands (λ p command. none_if (is_some command) (has_macro w.packages p) (length w.packages + p, command_label) (no_macro w.packages (λ x c. (alike x c).0) p)) in
      ap (λ z. first ++ z) none

pub resolvers_agree : ResolversAgree
resolvers_agree w s alike = (refl, same_side w s alike, same_starts w s alike)
