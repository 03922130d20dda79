-- What is kept and what is on, for larger settings.
use Rattle.std.proofs.Common.{◌≡◌, ⊎_elim, ℕ, zero, suc, ◌+◌, List, [], ◌∷◌, ◌++◌, Bool, true, false, Option, None, Some, length, refl, ap, sym, ◌∙◌, subst, if◌then◌else◌}
use Rattle.std.specs.Prelude.{◌&&◌, Contains, is_some, nat_lt, option_and_then, slice_get}
use Rattle.std.proofs.lemmas.List.Elements.{Contains-append_cases, Contains-append_left, Contains-append_right}
use Rattle.feature_labels.specs.Names.{LabelName}
use Rattle.feature_labels.specs.Names.LabelName.{optional}
use Rattle.cargo_workspaces.specs.Workspaces.{FeatureText, IsWorkspace, Text, WorkspaceText}
use Rattle.feature_core.proofs.AddsLemmas.{Contains-first}
use Rattle.plan_rows.specs.Commands.{command_of}
use Rattle.plan_rows.specs.Steps.{SettingsText, is_host, on_entries, resolved_entries}
use Rattle.plan_rows.specs.Tables.{Entry, rows_of}
use Rattle.plan_rows.specs.declared.side.Side.{Side}
use Rattle.cargo_plans.specs.plan_starts.Lists.{joined_from}
use Rattle.cargo_plans.specs.plan_starts.PackageVisits.{PairVisit, first_entry, is_kept, is_on, reaches_at}
use Rattle.cargo_plans.specs.plan_starts.Targets.{has_macro}
use Rattle.cargo_plans.specs.plan_units.Commands.{command_label, command_places, on_starts, resolved_starts}
use Rattle.plan_starts.specs.step_visits.Visits.{IsVisitOf, Visit, reaches}
use Rattle.cargo_plans.specs.plan_steps.Plans.{IsOn, IsResolved}
use Rattle.laws.specs.plans.Growth.{CommandsGrow}
use Rattle.laws.specs.plans.Laws.{AreAmong}
use Rattle.laws.specs.plans.Widening.{SettingsGrow}
use Rattle.laws.proofs.EntryGrowth.{HaveMore, has_more}
use Rattle.laws.proofs.EntryLinks.{AreWithin, rows_sound}
use Rattle.laws.proofs.Grown.{grown_tables}
use Rattle.laws.proofs.Members.{both_true, number_first, number_on, one_if, same_some}
use Rattle.laws.proofs.MoreEntries.{everywhere, resolved_more, resolved_within, two_true}
use Rattle.laws.proofs.MoreOn.{either_more, on_more, on_within}
use Rattle.laws.proofs.Numbered.{joined_back}
use Rattle.laws.proofs.OnePlan.{on_is, resolved_is}

-- Visits.

pub visit_more : (es fs : List Entry) → AreWithin es → AreWithin fs → HaveMore es fs everywhere (λ k. k) → (starts others : List (ℕ × LabelName)) → AreAmong starts others → (u v : Visit) → IsVisitOf (rows_of es) starts u → IsVisitOf (rows_of fs) others v → (k : ℕ) (label : LabelName) → reaches u k label ≡ true → reaches v k label ≡ true
visit_more es fs within_es within_fs more starts others among u v a b k label h =
    grown_tables a.rows_tables b.rows_tables (rows_sound (rows_of es) a.rows_tables a.are_tables) (rows_sound (rows_of fs) b.rows_tables b.are_tables) everywhere (λ k. k)
    (has_more es fs a.rows_tables b.rows_tables a.are_tables b.are_tables within_es within_fs everywhere (λ k. k) more) starts others among (λ x c. refl) u v a.is_visit b.is_visit k label h

pair_more : (n : ℕ) (u v : PairVisit) → u.count ≡ n → v.count ≡ n → ((k : ℕ) (label : LabelName) → reaches u.visit k label ≡ true → reaches v.visit k label ≡ true) → (second : Bool) (p : ℕ) (label : LabelName) → reaches_at u second p label ≡ true → reaches_at v second p label ≡ true
pair_more n u v a b more second p label h =
    let counts : u.count ≡ v.count = a ∙ sym b in
    let parts = both_true (nat_lt p u.count) (reaches u.visit (first_entry second u.count + p) label) h in
    two_true (nat_lt p v.count) (reaches v.visit (first_entry second v.count + p) label) (subst (λ c. nat_lt p c ≡ true) counts parts.0)
    (subst (λ c. reaches v.visit (first_entry second c + p) label ≡ true) counts (more (first_entry second u.count + p) label parts.1))

-- Starts of command features.

pub joined_into : {X Y : Type 0} (f : ℕ → X → List Y) (k : ℕ) (xs : List X) (m : ℕ) (x : X) (y : Y) → slice_get xs m ≡ Some x → Contains (f (k + m) x) y → Contains (joined_from f k xs) y
joined_into f k [] m x y h i = absurd (cc)
joined_into f k (z ∷ xs) zero x y h i =
    let same : x ≡ z = sym (same_some z x h) in
    Contains-append_left (f k z) (joined_from f (k + 1) xs) y (subst (λ n. Contains (f n z) y) (sym (number_first k)) (subst (λ v. Contains (f (k + zero) v) y) same i))
joined_into f k (z ∷ xs) (suc m) x y h i =
    Contains-append_right (f k z) (joined_from f (k + 1) xs) y (joined_into f (k + 1) xs m x y h (subst (λ n. Contains (f n x) y) (sym (number_on k m)) i))

pub command_there : (commands : List (Option FeatureText)) (p : ℕ) (g : FeatureText) → command_of commands p ≡ Some g → slice_get commands p ≡ Some (Some g)
command_there commands p g h = go (slice_get commands p) refl h
  where
    go : (o : Option (Option FeatureText)) → slice_get commands p ≡ o → option_and_then (λ c. c) o ≡ Some g → slice_get commands p ≡ Some (Some g)
    go None e i = absurd (cc)
    go (Some c) e i = e ∙ ap Some i

module _ (commands others : List (Option FeatureText)) (grow : CommandsGrow commands others) where
  commands_among : (test : ℕ → Bool) (first : ℕ) → AreAmong (command_places test first commands) (command_places test first others)
  commands_among test first y h =
      let make : ℕ → Option FeatureText → List (ℕ × LabelName) = λ p command. if is_some command && test p then (first + p, command_label) ∷ [] else [] in
      let j = joined_back make 0 commands y h in
      let one = one_if (is_some j.item && test (0 + j.place)) (first + (0 + j.place), command_label) y j.member in
      let parts = both_true (is_some j.item) (test (0 + j.place)) one.0 in
      go j.place j.item j.there parts.0 parts.1 one.1
    where
      go : (p : ℕ) (o : Option FeatureText) → slice_get commands p ≡ Some o → is_some o ≡ true → test (0 + p) ≡ true → ◌≡◌ {A = ℕ × LabelName} (first + (0 + p), command_label) y → Contains (command_places test first others) y
      go p None at some passes same = absurd (cc)
      go p (Some f) at some passes same =
          let make : ℕ → Option FeatureText → List (ℕ × LabelName) = λ p command. if is_some command && test p then (first + p, command_label) ∷ [] else [] in
          let g = grow p f (ap (option_and_then (λ c. c)) at) in
          let there : slice_get others p ≡ Some (Some g.0) = command_there others p g.0 g.1 in
          joined_into make 0 others p (Some g.0) y there
          (subst (λ b. Contains (if b then (first + (0 + p), command_label) ∷ [] else []) y) (sym passes) (subst (λ z. Contains ((first + (0 + p), command_label) ∷ []) z) same (Contains-first (first + (0 + p), command_label) [])))

append_among : (xs ys us vs : List (ℕ × LabelName)) → AreAmong xs ys → AreAmong us vs → AreAmong (xs ++ us) (ys ++ vs)
append_among xs ys us vs a b s h = ⊎_elim
    (λ i. Contains-append_left ys vs s (a s i))
    (λ i. Contains-append_right ys vs s (b s i))
    (Contains-append_cases xs us s h)

module _ (w : WorkspaceText) (is : IsWorkspace w) (s t : SettingsText) (grow : SettingsGrow w s t) where
  on_among : AreAmong (on_starts w s) (on_starts w t)
  on_among =
      append_among (command_places (λ p. true) 0 s.commands) (command_places (λ p. true) 0 t.commands) (macros s.split s.commands) (macros t.split t.commands) (commands_among s.commands t.commands grow.commands (λ p. true) 0)
      (subst (λ split. AreAmong (macros s.split s.commands) (macros split t.commands)) grow.split (go s.split))
    where
      macros : Bool → List (Option FeatureText) → List (ℕ × LabelName)
      macros split cs = if split then command_places (has_macro w.packages) (length w.packages) cs else []

      go : (split : Bool) → AreAmong (macros split s.commands) (macros split t.commands)
      go true = commands_among s.commands t.commands grow.commands (has_macro w.packages) (length w.packages)
      go false = λ x c. c

  module _ (k j : PairVisit) (resolved : IsResolved w s k) (others : IsResolved w t j) where
    pub kept_grows : (p : ℕ) (name : Text) → is_kept k p name ≡ true → is_kept j p name ≡ true
    kept_grows p name =
        let a = resolved_is w s k resolved in
        let b = resolved_is w t j others in
        let at = pair_more (length w.packages) k j a.0 b.0
        (visit_more (resolved_entries w s) (resolved_entries w t) (resolved_within w is s t.commands grow.commands s.commands) (resolved_within w is s t.commands grow.commands t.commands)
        (resolved_more w is s t.commands grow.commands) (resolved_starts w s) (resolved_starts w t) (commands_among s.commands t.commands grow.commands (λ p. true) (length w.packages)) k.visit j.visit a.1 b.1) in
        either_more (reaches_at k false p (optional name)) (reaches_at k true p (optional name)) (reaches_at j false p (optional name)) (reaches_at j true p (optional name)) (at false p (optional name)) (at true p (optional name))

    pub on_grows : (o l : PairVisit) → IsOn w s k o → IsOn w t j l → (side : Side) (p : ℕ) (label : LabelName) → is_on o side p label ≡ true → is_on l side p label ≡ true
    on_grows o l turned more side p label =
        let a = on_is w s k o turned in
        let b = on_is w t j l more in
        pair_more (length w.packages) o l a.0 b.0
        (visit_more (on_entries w s (is_kept k)) (on_entries w t (is_kept j)) (on_within w is s (is_kept k)) (on_within w is t (is_kept j))
        (on_more w is s t grow (is_kept k) (is_kept j) kept_grows) (on_starts w s) (on_starts w t) on_among o.visit l.visit a.1 b.1) (is_host side) p label
