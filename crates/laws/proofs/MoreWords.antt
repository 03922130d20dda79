-- More feature words turn nothing off: they grow the command features.
use Rattle.std.proofs.Common.{◌≡◌, ⊎_elim, ℕ, zero, suc, ◌+◌, List, [], ◌∷◌, ◌++◌, Bool, true, false, Option, None, Some, Result, Ok, Err, length, map, refl, ap, sym, ◌∙◌, subst, arith, if◌then◌else◌}
use Rattle.std.specs.Prelude.{Contains, nat_eq, option_and_then, slice_get}
use Rattle.std.specs.List.{list_any}
use Rattle.std.proofs.lemmas.List.Elements.{Contains-append_cases, Contains-append_left, Contains-append_right}
use Rattle.feature_core.proofs.PushLemmas.{from_map, into_map}
use Rattle.cargo_workspaces.specs.Workspaces.{FeatureText, PackageText, Text, WorkspaceText}
use Rattle.plan_rows.specs.Commands.{command_of}
use Rattle.plan_words.specs.Choices.{ChosenText, StartedText, all_members, chosen_members, command, commands_from, commands_of, members_among, root_of, started}
use Rattle.plan_words.specs.FeatureWords.{Addressed, addressed, each_takes, first_of, items_of_words, own_item, root_takes, usual_items, value_if}
use Rattle.plan_words.specs.ItemChecks.{member_refusal, word_refusal}
use Rattle.plan_words.specs.PackageWords.{selected}
use Rattle.plan_words.specs.Refusals.{Refusal, unless, ◌>>=◌}
use Rattle.plan_words.specs.Selections.{SelectionText}
use Rattle.cargo_plans.specs.plan_steps.Plans.{IsPlan}
use Rattle.cargo_plans.specs.Plans.{settings_by}
use Rattle.laws.specs.plans.Growth.{CommandsGrow, MoreWordsTurnNothingOff, select_features, with_feature_words}
use Rattle.laws.proofs.Members.{from_filter_map, same_some}
use Rattle.laws.proofs.MoreEntries.{into_filter_map}
use Rattle.laws.proofs.MoreFeatures.{more_turns_nothing_off}
use Rattle.laws.proofs.MoreSteps.{command_there}

pub same_ok : {X : Type 0} (x y : X) → ◌≡◌ {A = Result X Refusal} (Ok x) (Ok y) → x ≡ y
same_ok x y h = cc

pub unless_ok : {X : Type 0} (o : Option Refusal) (x y : X) → unless o x ≡ Ok y → x ≡ y
unless_ok None x y h = same_ok x y h
unless_ok (Some r) x y h = absurd (cc)

pub then_ok : {X Y : Type 0} (r : Result X Refusal) (f : X → Result Y Refusal) (y : Y) → (r >>= f) ≡ Ok y → (x : X) × (r ≡ Ok x) × (f x ≡ Ok y)
then_ok (Ok x) f y h = (x, refl, h)
then_ok (Err e) f y h = absurd (cc)

-- What is started.

abbrev pub shape : WorkspaceText → Option ℕ → List ℕ → List Text → StartedText
shape w None chosen words = record { members = if nat_eq (length chosen) 0 then w.members else chosen; words = each_takes words }
shape w (Some root) chosen words = record { members = chosen ++ root ∷ []; words = root_takes root (map (addressed w root chosen) words) }

pub started_is : (w : WorkspaceText) (s : SelectionText) (root : Option ℕ) (chosen : List ℕ) (begun : StartedText) → started w s root chosen ≡ Ok begun → shape w root chosen s.features ≡ begun
started_is w s None chosen begun h = go (nat_eq (length chosen) 0) h
  where
    go : (b : Bool) → (if b then all_members w s else chosen_members w s chosen) ≡ Ok begun → ◌≡◌ {A = StartedText} (record { members = if b then w.members else chosen; words = each_takes s.features }) begun
    go true i = unless_ok _ (record { members = w.members; words = each_takes s.features }) begun i
    go false i = unless_ok (first_of (word_refusal w chosen) s.features) (record { members = chosen; words = each_takes s.features }) begun i
started_is w s (Some root) chosen begun h = same_ok (shape w (Some root) chosen s.features) begun h

commands_are : (w : WorkspaceText) (s : SelectionText) (packages : List ℕ) (commands : List (Option FeatureText)) → commands_of w s packages ≡ Ok commands → commands_from s (shape w (root_of w s) (members_among w packages) s.features) 0 w.packages ≡ commands
commands_are w s packages commands h =
    let r = then_ok (started w s (root_of w s) (members_among w packages)) (λ begun. unless (first_of (member_refusal w begun.words) begun.members) (commands_from s begun 0 w.packages)) commands h in
    let same = started_is w s (root_of w s) (members_among w packages) r.0 r.1 in
    ap (λ (z : StartedText). commands_from s z 0 w.packages) same ∙ unless_ok (first_of (member_refusal w r.0.words) r.0.members) (commands_from s r.0 0 w.packages) commands r.2

-- The command feature of a package.

abbrev pub made : SelectionText → StartedText → ℕ → PackageText → Option FeatureText
made s begun k x = value_if (list_any (nat_eq k) begun.members) (command s begun.words k x)

pub command_back : (s : SelectionText) (begun : StartedText) (k : ℕ) (xs : List PackageText) (p : ℕ) (o : Option FeatureText) → slice_get (commands_from s begun k xs) p ≡ Some o → (x : PackageText) × (slice_get xs p ≡ Some x) × (made s begun (k + p) x ≡ o)
command_back s begun k [] p o h = absurd (cc)
command_back s begun k (x ∷ xs) zero o h =
    let first : k + zero ≡ k = omega arith in
    (x, refl, ap (λ n. made s begun n x) first ∙ same_some (made s begun k x) o h)
command_back s begun k (x ∷ xs) (suc p) o h =
    let r = command_back s begun (k + 1) xs p o h in
    let next : k + suc p ≡ k + 1 + p = omega arith in
    (r.0, r.1, ap (λ n. made s begun n r.0) next ∙ r.2)

pub command_at : (s : SelectionText) (begun : StartedText) (k : ℕ) (xs : List PackageText) (p : ℕ) (x : PackageText) → slice_get xs p ≡ Some x → slice_get (commands_from s begun k xs) p ≡ Some (made s begun (k + p) x)
command_at s begun k [] p x h = absurd (cc)
command_at s begun k (y ∷ xs) zero x h =
    let first : k ≡ k + zero = omega arith in
    ap (λ z. Some (made s begun k z)) (same_some y x h) ∙ ap (λ n. Some (made s begun n x)) first
command_at s begun k (y ∷ xs) (suc p) x h =
    let next : k + 1 + p ≡ k + suc p = omega arith in
    command_at s begun (k + 1) xs p x h ∙ ap (λ n. Some (made s begun n x)) next

module _ (w : WorkspaceText) (s : SelectionText) (more : List Text) (among : (f : Text) → Contains s.features f → Contains more f) (root : Option ℕ) (chosen : List ℕ) where
  abbrev grown : SelectionText
  grown = select_features s more

  items_more : (root : Option ℕ) (m : ℕ) (x : PackageText) (i : Text) → Contains (items_of_words (shape w root chosen s.features).words m x) i → Contains (items_of_words (shape w root chosen more).words m x) i
  items_more None m x i h =
      let r = from_filter_map (λ word. own_item word x) s.features i h in
      into_filter_map (λ word. own_item word x) more r.0 i (among r.0 r.1) r.2
  items_more (Some n) m x i h =
      let take : Addressed → Option Text = λ a. value_if (nat_eq a.to m) a.item in
      let r = from_filter_map take (map (addressed w n chosen) s.features) i h in
      let q = from_map (addressed w n chosen) s.features r.0 r.1 in
      into_filter_map take (map (addressed w n chosen) more) r.0 i (subst (λ a. Contains (map (addressed w n chosen) more) a) q.2 (into_map (addressed w n chosen) more q.0 (among q.0 q.1))) r.2

  command_more : (root : Option ℕ) (m : ℕ) (x : PackageText) (i : Text) → Contains (command s (shape w root chosen s.features).words m x).items i → Contains (command grown (shape w root chosen more).words m x).items i
  command_more None m x i h = ⊎_elim
      (λ j. Contains-append_left (items_of_words (each_takes more) m x) (usual_items s true x) i (items_more None m x i j))
      (λ j. Contains-append_right (items_of_words (each_takes more) m x) (usual_items s true x) i j)
      (Contains-append_cases (items_of_words (each_takes s.features) m x) (usual_items s true x) i h)
  command_more (Some n) m x i h = ⊎_elim
      (λ j. Contains-append_left (items_of_words (root_takes n (map (addressed w n chosen) more)) m x) (usual_items s (nat_eq n m) x) i (items_more (Some n) m x i j))
      (λ j. Contains-append_right (items_of_words (root_takes n (map (addressed w n chosen) more)) m x) (usual_items s (nat_eq n m) x) i j)
      (Contains-append_cases (items_of_words (root_takes n (map (addressed w n chosen) s.features)) m x) (usual_items s (nat_eq n m) x) i h)

  same_members : (root : Option ℕ) → (shape w root chosen more).members ≡ (shape w root chosen s.features).members
  same_members None = refl
  same_members (Some n) = refl

  commands_grow : CommandsGrow (commands_from s (shape w root chosen s.features) 0 w.packages) (commands_from grown (shape w root chosen more) 0 w.packages)
  commands_grow p f h =
      let a = shape w root chosen s.features in
      let b = shape w root chosen more in
      let r = command_back s a 0 w.packages p (Some f) (command_there (commands_from s a 0 w.packages) p f h) in
      let at = command_at grown b 0 w.packages p r.0 r.1 in
      go (list_any (nat_eq (0 + p)) a.members) (ap (λ ms. list_any (nat_eq (0 + p)) ms) (same_members root)) r.0 r.2 (ap (option_and_then (λ c. c)) at)
    where
      go : (b : Bool) → list_any (nat_eq (0 + p)) (shape w root chosen more).members ≡ b → (x : PackageText) → value_if b (command s (shape w root chosen s.features).words (0 + p) x) ≡ Some f → command_of (commands_from grown (shape w root chosen more) 0 w.packages) p ≡ made grown (shape w root chosen more) (0 + p) x
          → (g : FeatureText) × (command_of (commands_from grown (shape w root chosen more) 0 w.packages) p ≡ Some g) × (g.name ≡ f.name) × ((i : Text) → Contains f.items i → Contains g.items i)
      go false e x i at = absurd (cc)
      go true e x i at =
          let same = same_some (command s (shape w root chosen s.features).words (0 + p) x) f i in (
            command grown (shape w root chosen more).words (0 + p) x,
            at ∙ ap (λ z. value_if z (command grown (shape w root chosen more).words (0 + p) x)) e,
            ap (λ (z : FeatureText). z.name) same,
            λ j k. command_more root (0 + p) x j (subst (λ (z : FeatureText). Contains z.items j) (sym same) k),
          )

pub more_words : MoreWordsTurnNothingOff
more_words w words more p q is among a b u h =
    let s = words.selection in
    let r = then_ok (selected w s.packages) (λ packages. commands_of w s packages >>= λ commands. Ok (record { selected = packages; commands = commands })) a.chosen a.are_accepted in
    let v = then_ok (commands_of w s r.0) (λ commands. Ok (record { selected = r.0; commands = commands })) a.chosen r.2 in
    let t = select_features s more in
    let i = then_ok (selected w s.packages) (λ packages. commands_of w t packages >>= λ commands. Ok (record { selected = packages; commands = commands })) b.chosen b.are_accepted in
    let j = then_ok (commands_of w t i.0) (λ commands. Ok (record { selected = i.0; commands = commands })) b.chosen i.2 in
    let packages : r.0 ≡ i.0 = same_ok r.0 i.0 (sym r.1 ∙ i.1) in
    let first : ChosenText = record { selected = r.0; commands = v.0 } in
    let second : ChosenText = record { selected = i.0; commands = j.0 } in
    let is_first : first ≡ a.chosen = same_ok first a.chosen v.2 in
    let is_second : second ≡ b.chosen = same_ok second b.chosen j.2 in
    let plan = subst (λ (c : ChosenText). IsPlan w (settings_by words c) c.selected p) (sym is_first) a.holds in
    let other = subst (λ (c : ChosenText). IsPlan w (settings_by (with_feature_words words more) c) c.selected q) (sym is_second) b.holds in
    let grow : CommandsGrow v.0 j.0 = subst (λ z. CommandsGrow z j.0) (commands_are w s r.0 v.0 v.1)
    (subst (λ z. CommandsGrow (commands_from s (shape w (root_of w s) (members_among w r.0) s.features) 0 w.packages) z) (commands_are w t i.0 j.0 j.1)
    (subst (λ ps. CommandsGrow (commands_from s (shape w (root_of w s) (members_among w r.0) s.features) 0 w.packages) (commands_from t (shape w (root_of w s) (members_among w ps) more) 0 w.packages)) packages
    (commands_grow w s more among (root_of w s) (members_among w r.0)))) in
    more_turns_nothing_off w (settings_by words first) j.0 r.0 i.0 p q is grow (λ n c. subst (λ z. Contains z n) packages c) plan other u h
