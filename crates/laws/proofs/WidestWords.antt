-- The widest words turn on all that other words do.
use Rattle.std.proofs.Common.{◌≡◌, ◌⊎◌, inl, inr, ⊎_elim, ℕ, ◌+◌, List, [], ◌∷◌, ◌++◌, Bool, true, false, not, Option, None, Some, Ok, length, map, refl, ap, sym, ◌∙◌, subst, if◌then◌else◌, codes, arith, eq-eqb}
use Rattle.std.specs.Prelude.{◌&&◌, Contains, nat_eq, option_and_then, slice_get}
use Rattle.std.specs.Cmp.Lexicographic.{bytes_decides}
use Rattle.std.specs.List.{after_first, before_first, list_any}
use Rattle.std.specs.Option.{option_or}
use Rattle.std.specs.Str.{bytes_eq}
use Rattle.std.proofs.lemmas.Bool.{eqb-true}
use Rattle.std.proofs.lemmas.List.Elements.{Contains-append_cases, Contains-append_left, Contains-append_right}
use Rattle.feature_core.proofs.AddsLemmas.{Contains-cases, Contains-none, element_at_place}
use Rattle.feature_core.proofs.PushLemmas.{from_filter, from_map, into_filter, into_map}
use Rattle.cargo_workspaces.specs.Workspaces.{FeatureText, PackageText, Text, WorkspaceText}
use Rattle.cargo_plans.specs.plan_starts.PackageVisits.{is_on}
use Rattle.plan_words.specs.Choices.{ChosenText, StartedText, choose, command, commands_from, commands_of, members_among, root_of, started}
use Rattle.plan_words.specs.FeatureWords.{Addressed, PartsText, addressed, addressed_by, addressed_to, first_of, has_feature, is_slash, items_of_words, may_ask, member_called, own_item, own_item_by, parts_of, takes_defaults, usual_items, value_if, without_mark}
use Rattle.plan_words.specs.ItemChecks.{dependency_refusal, item_refusal, item_refusal_by, lead_refusal, member_refusal}
use Rattle.plan_words.specs.PackageWords.{selected, some_of}
use Rattle.plan_words.specs.Refusals.{Refusal, no_dependency, no_feature, unless, ◌>>=◌}
use Rattle.plan_words.specs.Selections.{SelectionText}
use Rattle.cargo_plans.specs.Plans.{settings_by}
use Rattle.laws.specs.plans.Growth.{CommandsGrow}
use Rattle.laws.specs.plans.Widening.{AsksNoDependency, CoversWord, NoSelectionTurnsOn, WidestTurnsAllOn, widest_selection}
use Rattle.laws.proofs.Members.{any_member, both_true, from_filter_map, member_any, one_if, same_some}
use Rattle.laws.proofs.MoreEntries.{into_filter_map}
use Rattle.laws.proofs.MoreSteps.{command_there}
use Rattle.laws.proofs.MoreWords.{command_at, command_back, same_ok, shape, started_is, then_ok, unless_ok}
use Rattle.laws.proofs.Wider.{larger_turns_nothing_off}

value_some : {X : Type 0} (b : Bool) (x y : X) → value_if b x ≡ Some y → (b ≡ true) × (x ≡ y)
value_some true x y h = (refl, same_some x y h)
value_some false x y h = absurd (cc)

value_none : {X : Type 0} (b : Bool) (x : X) → value_if (not b) x ≡ None → b ≡ true
value_none true x h = refl
value_none false x h = absurd (cc)

unless_none : {X : Type 0} (o : Option Refusal) (x y : X) → unless o x ≡ Ok y → o ≡ None
unless_none None x y h = refl
unless_none (Some r) x y h = absurd (cc)

first_none : {X Y : Type 0} (f : X → Option Y) (xs : List X) (x : X) → first_of f xs ≡ None → Contains xs x → f x ≡ None
first_none f [] x h c = absurd (Contains-none x c)
first_none {X} {Y} f (z ∷ xs) x h c = ⊎_elim
    (λ e. ap f (sym e) ∙ head (f z) h)
    (λ i. first_none f xs x (tail (f z) h) i)
    (Contains-cases z xs x c)
  where
    head : (o : Option Y) → option_or o (first_of f xs) ≡ None → o ≡ None
    head None e = refl
    head (Some y) e = absurd (cc)

    tail : (o : Option Y) → option_or o (first_of f xs) ≡ None → first_of f xs ≡ None
    tail None e = e
    tail (Some y) e = absurd (cc)

abbrev names : PackageText → List Text
names x = map (λ f. f.name) x.features

named_there : (x : PackageText) (name : Text) → has_feature x name ≡ true → Contains (names x) name
named_there x name h =
    let m = member_any (λ (f : FeatureText). bytes_eq f.name name) x.features h in
    subst (λ z. Contains (names x) z) ((bytes_decides m.element.name name).0 m.passes) (into_map (λ (f : FeatureText). f.name) x.features m.element m.member)

-- Items of words that ask for no feature of a dependency.

no_parts : (word : Text) → list_any is_slash word ≡ false → parts_of word ≡ None
no_parts word h = ap (λ b. value_if {X = PartsText} b (record { name = without_mark (before_first is_slash word); feature = after_first is_slash word })) h

-- what isn't refused is a feature
module _ (w : WorkspaceText) (m : ℕ) (x : PackageText) (of_w : Contains w.packages x) (i : Text) (fine : item_refusal w m x i ≡ None) where
  as_named : parts_of i ≡ None → Contains (names x) i
  as_named plain = named_there x i (value_none (has_feature x i) (no_feature m i) (sym (ap (item_refusal_by w m x i) plain) ∙ fine))

  own_named : (word : Text) → AsksNoDependency w word → own_item word x ≡ Some i → Contains (names x) i
  own_named word asks h = go (parts_of word) refl h
    where
      go : (o : Option PartsText) → parts_of word ≡ o → own_item_by word x o ≡ Some i → Contains (names x) i
      go None e j = as_named (ap parts_of (sym (value_some (may_ask x word) word i j).1) ∙ e)
      go (Some parts) e j =
          let a = asks parts e in
          let fits : Bool = bytes_eq parts.name x.name && may_ask x parts.feature in
          let item : value_if fits parts.feature ≡ Some i = sym (ap (λ b. if b then Some word else value_if fits parts.feature) (a.1 x of_w)) ∙ j in
          as_named (ap parts_of (sym (value_some fits parts.feature i item).1) ∙ no_parts parts.feature a.0)

  addressed_named : (root : ℕ) (chosen : List ℕ) (word : Text) → AsksNoDependency w word → (addressed w root chosen word).item ≡ i → Contains (names x) i
  addressed_named root chosen word asks h = go (parts_of word) refl h
    where
      chosen_as : Text → ℕ → Bool → Addressed
      chosen_as feature k b = if b then record { to = k; item = feature } else record { to = root; item = word }

      refused : (parts : PartsText) → parts_of word ≡ Some parts → word ≡ i → Contains (names x) i
      refused parts e same =
          let there : parts_of i ≡ Some parts = ap parts_of (sym same) ∙ e in
          let none : dependency_refusal w m x parts.name parts.feature ≡ None = sym (ap (item_refusal_by w m x i) there) ∙ fine in
          let clash : ◌≡◌ {A = Option Refusal} (Some (no_dependency m parts.name)) None =
          sym (ap (λ b. if b then first_of (lead_refusal w parts.name parts.feature) x.declarations else Some (no_dependency m parts.name)) ((asks parts e).1 x of_w)) ∙ none in
          absurd (cc)

      pick : (parts : PartsText) → parts_of word ≡ Some parts → (k : ℕ) (b : Bool) → (chosen_as parts.feature k b).item ≡ i → Contains (names x) i
      pick parts e k true j = as_named (ap parts_of (sym j) ∙ no_parts parts.feature (asks parts e).0)
      pick parts e k false j = refused parts e j

      to : (parts : PartsText) → parts_of word ≡ Some parts → (o : Option ℕ) → (addressed_to root chosen word parts.feature o).item ≡ i → Contains (names x) i
      to parts e None j = refused parts e j
      to parts e (Some k) j = pick parts e k (not (nat_eq k root) && list_any (nat_eq k) chosen) j

      go : (o : Option PartsText) → parts_of word ≡ o → (addressed_by w root chosen word o).item ≡ i → Contains (names x) i
      go None e j = as_named (ap parts_of (sym j) ∙ e)
      go (Some parts) e j = to parts e (member_called w parts.name) j

-- the items besides words are features
usual_named : (s : SelectionText) (b : Bool) (x : PackageText) (i : Text) → Contains (usual_items s b x) i → Contains (names x) i
usual_named s b x i h = go s.all_features h
  where
    go : (all : Bool) → Contains (if all then map (λ f. f.name) x.features else (if has_feature x (codes "default") && not (s.no_default_features && b) then codes "default" ∷ [] else [])) i → Contains (names x) i
    go true h = h
    go false h =
        let one = one_if (has_feature x (codes "default") && not (s.no_default_features && b)) (codes "default") i h in
        subst (λ z. Contains (names x) z) one.1 (named_there x (codes "default") (both_true (has_feature x (codes "default")) (not (s.no_default_features && b)) one.0).0)

-- Started members.

module _ (w : WorkspaceText) (m : ℕ) where
  abbrev is_in : List ℕ → Type 0
  is_in ns = list_any (nat_eq m) ns ≡ true

  in_member : (ns : List ℕ) → is_in ns → Contains ns m
  in_member ns h =
      let e = member_any (nat_eq m) ns h in
      subst (λ z. Contains ns z) (sym (eqb-true m e.element e.passes)) e.member

  member_in : (ns : List ℕ) → Contains ns m → is_in ns
  member_in ns h = any_member (nat_eq m) ns m h (eq-eqb m m refl)

  among_in : (packages : List ℕ) → is_in (members_among w packages) → is_in w.members
  among_in packages h = (from_filter (λ p. list_any (nat_eq p) w.members) packages m (in_member (members_among w packages) h)).1

  all_in : is_in w.members → is_in (members_among w w.members)
  all_in h = member_in (members_among w w.members) (into_filter (λ p. list_any (nat_eq p) w.members) w.members m (in_member w.members h) h)

  started_more : (root : Option ℕ) (packages : List ℕ) (words others : List Text) → is_in (shape w root (members_among w packages) words).members → is_in (shape w root (members_among w w.members) others).members
  started_more None packages words others h = wide (nat_eq (length (members_among w w.members)) 0) (small (nat_eq (length (members_among w packages)) 0) h)
    where
      small : (b : Bool) → is_in (if b then w.members else members_among w packages) → is_in w.members
      small true i = i
      small false i = among_in packages i

      wide : (b : Bool) → is_in w.members → is_in (if b then w.members else members_among w w.members)
      wide true i = i
      wide false i = all_in i
  started_more (Some root) packages words others h =
      let all = members_among w w.members in
      member_in (all ++ root ∷ []) (⊎_elim
      (λ i. Contains-append_left all (root ∷ []) m (in_member all (all_in (among_in packages (member_in (members_among w packages) i)))))
      (λ i. Contains-append_right all (root ∷ []) m i)
      (Contains-append_cases (members_among w packages) (root ∷ []) m (in_member (members_among w packages ++ root ∷ []) h)))

-- Command features.

-- what is started, if nothing is refused
record IsBegun (w : WorkspaceText) (s : SelectionText) (packages : List ℕ) (commands : List (Option FeatureText)) : Type 0 where
  fine : first_of (member_refusal w (shape w (root_of w s) (members_among w packages) s.features).words) (shape w (root_of w s) (members_among w packages) s.features).members ≡ None
  made_of : commands_from s (shape w (root_of w s) (members_among w packages) s.features) 0 w.packages ≡ commands

begun_by : (w : WorkspaceText) (s : SelectionText) (packages : List ℕ) (commands : List (Option FeatureText)) → commands_of w s packages ≡ Ok commands → IsBegun w s packages commands
begun_by w s packages commands h =
    let r = then_ok (started w s (root_of w s) (members_among w packages)) (λ begun. unless (first_of (member_refusal w begun.words) begun.members) (commands_from s begun 0 w.packages)) commands h in
    let same = started_is w s (root_of w s) (members_among w packages) r.0 r.1 in
    record {
      fine = ap (λ (z : StartedText). first_of (member_refusal w z.words) z.members) same ∙ unless_none (first_of (member_refusal w r.0.words) r.0.members) (commands_from s r.0 0 w.packages) commands r.2;
      made_of = ap (λ (z : StartedText). commands_from s z 0 w.packages) same ∙ unless_ok (first_of (member_refusal w r.0.words) r.0.members) (commands_from s r.0 0 w.packages) commands r.2;
    }

module _ (w : WorkspaceText) (s : SelectionText) (packages : List ℕ) (root : Option ℕ) (split : Bool) (extra : List Text) (covered : (f : Text) → Contains s.features f → AsksNoDependency w f ⊎ (Contains extra f × (root ≡ None))) where
  abbrev small : StartedText
  small = shape w root (members_among w packages) s.features

  abbrev wide : StartedText
  wide = shape w root (members_among w w.members) extra

  abbrev widest : SelectionText
  widest = widest_selection split extra

  -- an item of words is a feature, or is there too
  item_covered : (root : Option ℕ) → ((f : Text) → Contains s.features f → AsksNoDependency w f ⊎ (Contains extra f × (root ≡ None))) → (chosen others : List ℕ) (m : ℕ) (x : PackageText) (i : Text)
      → Contains w.packages x → item_refusal w m x i ≡ None → Contains (items_of_words (shape w root chosen s.features).words m x) i → Contains (names x) i ⊎ Contains (items_of_words (shape w root others extra).words m x) i
  item_covered None covers chosen others m x i of_w fine h =
      let r = from_filter_map (λ word. own_item word x) s.features i h in
      ⊎_elim
      (λ asks. inl (own_named w m x of_w i fine r.0 asks r.2))
      (λ c. inr (into_filter_map (λ word. own_item word x) extra r.0 i c.0 r.2))
      (covers r.0 r.1)
  item_covered (Some n) covers chosen others m x i of_w fine h =
      let r = from_filter_map (λ (a : Addressed). value_if (nat_eq a.to m) a.item) (map (addressed w n chosen) s.features) i h in
      let q = from_map (addressed w n chosen) s.features r.0 r.1 in
      let same : r.0.item ≡ i = (value_some (nat_eq r.0.to m) r.0.item i r.2).1 in
      ⊎_elim
      (λ asks. inl (addressed_named w m x of_w i fine n chosen q.0 asks (ap (λ (a : Addressed). a.item) q.2 ∙ same)))
      (λ c. let clash : ◌≡◌ {A = Option ℕ} (Some n) None = c.1 in absurd (cc))
      (covers q.0 q.1)

  all_named : (m : ℕ) (x : PackageText) (i : Text) → Contains (names x) i → Contains (command widest wide.words m x).items i
  all_named m x i h = Contains-append_right (items_of_words wide.words m x) (usual_items widest (takes_defaults wide.words m) x) i h

  module _ (fine : first_of (member_refusal w small.words) small.members ≡ None) where
    -- each item of a command feature is there too
    items_there : (m : ℕ) (x : PackageText) → slice_get w.packages m ≡ Some x → list_any (nat_eq m) small.members ≡ true
        → (i : Text) → Contains (command s small.words m x).items i → Contains (command widest wide.words m x).items i
    items_there m x there begun i h = ⊎_elim
        (λ j.
        let one = first_none (member_refusal w small.words) small.members m fine (in_member w m small.members begun) in
        let all : first_of (item_refusal w m x) (items_of_words small.words m x) ≡ None = sym (ap (option_and_then (λ p. first_of (item_refusal w m p) (items_of_words small.words m p))) there) ∙ one in
        ⊎_elim
        (λ k. all_named m x i k)
        (λ k. Contains-append_left (items_of_words wide.words m x) (usual_items widest (takes_defaults wide.words m) x) i k)
        (item_covered root covered (members_among w packages) (members_among w w.members) m x i (element_at_place w.packages m x there) (first_none (item_refusal w m x) (items_of_words small.words m x) i all j) j))
        (λ j. all_named m x i (usual_named s (takes_defaults small.words m) x i j))
        (Contains-append_cases (items_of_words small.words m x) (usual_items s (takes_defaults small.words m) x) i h)

    widest_grow : CommandsGrow (commands_from s small 0 w.packages) (commands_from widest wide 0 w.packages)
    widest_grow p f h =
        let r = command_back s small 0 w.packages p (Some f) (command_there (commands_from s small 0 w.packages) p f h) in
        let at = command_at widest wide 0 w.packages p r.0 r.1 in
        let one = value_some (list_any (nat_eq (0 + p)) small.members) (command s small.words (0 + p) r.0) f r.2 in
        let begun = started_more w (0 + p) root packages s.features extra one.0 in
        let number : p ≡ 0 + p = omega arith in
        let there : slice_get w.packages (0 + p) ≡ Some r.0 = subst (λ n. slice_get w.packages n ≡ Some r.0) number r.1 in (
          command widest wide.words (0 + p) r.0,
          ap (option_and_then (λ c. c)) at ∙ ap (λ b. value_if b (command widest wide.words (0 + p) r.0)) begun,
          ap (λ (z : FeatureText). z.name) one.1,
          λ i c. items_there (0 + p) r.0 there one.0 i (subst (λ (z : FeatureText). Contains z.items i) (sym one.1) c),
        )

-- The words' packages and command features.
record IsChosen (w : WorkspaceText) (s : SelectionText) (chosen : ChosenText) : Type 0 where
  packages : List ℕ
  are_selected : selected w s.packages ≡ Ok packages
  begun : IsBegun w s packages chosen.commands

chosen_by : (w : WorkspaceText) (s : SelectionText) (chosen : ChosenText) → choose w s ≡ Ok chosen → IsChosen w s chosen
chosen_by w s chosen h =
    let r = then_ok (selected w s.packages) (λ packages. commands_of w s packages >>= λ commands. Ok (record { selected = packages; commands = commands })) chosen h in
    let v = then_ok (commands_of w s r.0) (λ commands. Ok (record { selected = r.0; commands = commands })) chosen r.2 in
    let made_by : ChosenText = record { selected = r.0; commands = v.0 } in
    let same : made_by ≡ chosen = same_ok made_by chosen v.2 in
    record { packages = r.0; are_selected = r.1; begun = subst (λ (c : ChosenText). IsBegun w s r.0 c.commands) same (begun_by w s r.0 v.0 v.1) }

some_ok : (xs ys : List ℕ) → some_of xs ≡ Ok ys → xs ≡ ys
some_ok [] ys h = absurd (cc)
some_ok (x ∷ xs) ys h = same_ok (x ∷ xs) ys h

choices_grow : (w : WorkspaceText) (s : SelectionText) (split : Bool) (extra : List Text) → s.split ≡ split → ((f : Text) → Contains s.features f → CoversWord w (widest_selection split extra) f)
    → (a b : ChosenText) → choose w s ≡ Ok a → choose w (widest_selection split extra) ≡ Ok b → CommandsGrow a.commands b.commands
choices_grow w s split extra same covered a b x y =
    let widest = widest_selection split extra in
    let c = chosen_by w s a x in
    let d = chosen_by w widest b y in
    let members : w.members ≡ d.packages = some_ok w.members d.packages d.are_selected in
    let root : root_of w s ≡ root_of w widest = ap (λ z. if z then None else w.root) same in
    let begun : StartedText = shape w (root_of w s) (members_among w c.packages) s.features in
    subst (λ z. CommandsGrow z b.commands) c.begun.made_of
    (subst (λ z. CommandsGrow (commands_from s begun 0 w.packages) z) d.begun.made_of
    (subst (λ z. CommandsGrow (commands_from s begun 0 w.packages) (commands_from widest (shape w (root_of w widest) (members_among w z) extra) 0 w.packages)) members
    (subst (λ z. CommandsGrow (commands_from s begun 0 w.packages) (commands_from widest (shape w z (members_among w w.members) extra) 0 w.packages)) root
    (widest_grow w s c.packages (root_of w s) split extra (λ f i. ⊎_elim (λ asks. inl asks) (λ e. inr (e.0, root ∙ e.1)) (covered f i)) c.begun.fine))))

pub widest_turns_all_on : WidestTurnsAllOn
widest_turns_all_on w words widest p q is wide covered a b =
    larger_turns_nothing_off w (settings_by words a.chosen) (settings_by widest b.chosen) a.chosen.selected b.chosen.selected p q is
    (record {
      split = covered.split;
      development = λ h. wide.development;
      commands = choices_grow w words.selection widest.selection.split widest.selection.features covered.split (λ f i. subst (λ z. CoversWord w z f) wide.selection (covered.features f i))
          a.chosen b.chosen a.are_accepted (subst (λ z. choose w z ≡ Ok b.chosen) wide.selection b.are_accepted);
      host = λ x c d i h. wide.host x c d i;
      targets = λ x c d i h. wide.targets x c d i;
    })
    a.holds b.holds

off_by : (a b : Bool) → (a ≡ true → b ≡ true) → b ≡ false → a ≡ false
off_by true b h e = let clash : true ≡ false = sym (h refl) ∙ e in absurd (cc)
off_by false b h e = refl

pub no_selection_turns_on : NoSelectionTurnsOn
no_selection_turns_on w widest q is wide b k label off words p covered a side =
    off_by (is_on p.on side k label) (is_on q.on side k label) (widest_turns_all_on w words widest p q is wide covered a b side k label) (off side)
