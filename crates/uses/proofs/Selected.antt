-- The initials of a workspace query, if a filter accepts the features on by default and the named ones of a list.
use Rattle.std.proofs.Common.{◌≡◌, ℕ, zero, suc, ◌⊎◌, inl, inr, ⊎_elim, Bool, true, false, List, [], ◌∷◌, map, Option, Some, refl, sym, ◌∙◌, ap, subst, arith}
use Rattle.std.specs.Prelude.{◌↔◌, IsTrue, slice_get, Contains}
use Rattle.std.specs.Option.{option_map_or}
use Rattle.guppy_features.specs.digraphs.Bits.{has}
use Rattle.guppy_features.specs.guppy_packages.Rows.{Text}
use Rattle.guppy_features.specs.guppy_packages.Tables.{Tables}
use Rattle.guppy_features.specs.feature_labels.Names.{LabelName}
use Rattle.guppy_features.specs.feature_labels.Names.LabelName.{base, named, optional}
use Rattle.guppy_features.specs.ListedFilters.{base_of_names, listed_names}
use Rattle.guppy_features.specs.declared.listed_filters.NamedFeatureFilter.{NamedFeatureFilter}
use Rattle.guppy_features.specs.feature_graph.declared.query.standard.StandardFeatures.{StandardFeatures}
use Rattle.guppy_features.specs.feature_graph.declared.query.standard.StandardFeatures.TheVariants.{Default}
use Rattle.guppy_features.specs.feature_graph.Filters.{Run, Ran, SelectsByFilter, StandardAccepts, accepted, workspace_names}
use Rattle.guppy_features.specs.Accepted.{AddsToBase, ListsLabel, SameElements}
use Rattle.guppy_features.specs.feature_graph.Names.{TellsDefault}
use Rattle.guppy_features.specs.feature_graph.Values.{Graph}
use Rattle.uses.specs.Answers.{IsSelected}

-- The name is accepted exactly if it is on by default or listed.
pub record Rules (t : Tables) (names : List Text) (name : Text × LabelName) (answer : Bool) : Type 0 where
  pub own : Bool
  pub default : TellsDefault t name own
  pub rule : IsTrue answer ↔ (IsTrue own ⊎ ListsLabel names name.1)

contains_at : {X : Type 0} (xs : List X) (k : ℕ) (x : X) → slice_get xs k ≡ Some x → Contains xs x
contains_at [] k x h = cc
contains_at (y ∷ xs) zero x h = (0, omega arith, cc)
contains_at (y ∷ xs) (suc k) x h = let rest = contains_at xs k x h in (suc rest.0, omega (arith, rest.1), rest.2)

at_contains : {X : Type 0} (xs : List X) (x : X) → Contains xs x → (k : ℕ) × (slice_get xs k ≡ Some x)
at_contains [] x (k, below, same) = absurd (omega arith)
at_contains (y ∷ xs) x (zero, below, same) = (0, ap Some same)
at_contains (y ∷ xs) x (suc k, below, same) = let rest = at_contains xs x (k, omega arith, same) in (suc rest.0, rest.1)

-- A question with its answer.
abbrev Asked : Type 0
Asked = (Text × LabelName) × Bool

first_is : (x y : Text × LabelName) (a b : Bool) → ◌≡◌ {A = Option Asked} (Some (x, a)) (Some (y, b)) → x ≡ y
first_is x y a b h = ap (λ (o : Option Asked). option_map_or (λ (p : Asked). p.0) o x) h

answer_is : (x y : Text × LabelName) (a b : Bool) → ◌≡◌ {A = Option Asked} (Some (x, a)) (Some (y, b)) → a ≡ b
answer_is x y a b h = ap (λ (o : Option Asked). option_map_or (λ (p : Asked). p.1) o a) h

-- An accepted name was asked for.
asked : (run : Run) (k : ℕ) (name : Text × LabelName) → slice_get (accepted run) k ≡ Some name → (j : ℕ) × (slice_get run j ≡ Some (name, true))
asked [] k name h = cc
asked ((other, true) ∷ run) zero name h = let same : other ≡ name = cc in (0, ap (λ x. Some (x, true)) same)
asked ((other, true) ∷ run) (suc k) name h = let rest = asked run k name h in (suc rest.0, rest.1)
asked ((other, false) ∷ run) k name h = let rest = asked run k name h in (suc rest.0, rest.1)

-- A name that was asked for, with the answer yes, is accepted.
stands : (run : Run) (k : ℕ) (name : Text × LabelName) → slice_get run k ≡ Some (name, true) → (j : ℕ) × (slice_get (accepted run) j ≡ Some name)
stands [] k name h = cc
stands ((other, true) ∷ run) zero name h = (0, ap Some (first_is other name true true h))
stands ((other, false) ∷ run) zero name h = let clash : false ≡ true = answer_is other name false true h in cc
stands ((other, true) ∷ run) (suc k) name h = let rest = stands run k name h in (suc rest.0, rest.1)
stands ((other, false) ∷ run) (suc k) name h = stands run k name h

name_at : (run : Run) (k : ℕ) (name : Text × LabelName) (answer : Bool) → slice_get run k ≡ Some (name, answer) → slice_get (map (λ x. x.0) run) k ≡ Some name
name_at [] k name answer h = cc
name_at (x ∷ run) zero name answer h = cc
name_at (x ∷ run) (suc k) name answer h = name_at run k name answer h

answer_at : (run : Run) (k : ℕ) (name : Text × LabelName) → slice_get (map (λ x. x.0) run) k ≡ Some name → (answer : Bool) × (slice_get run k ≡ Some (name, answer))
answer_at [] k name h = cc
answer_at ((other, answer) ∷ run) zero name h = let same : other ≡ name = cc in (answer, ap (λ x. Some (x, answer)) same)
answer_at (x ∷ run) (suc k) name h = answer_at run k name h

same_listed : (xs ys : List Text) → SameElements xs ys → (label : LabelName) → ListsLabel xs label ↔ ListsLabel ys label
same_listed xs ys same base = ((λ h. h), (λ h. h))
same_listed xs ys same (named name) = same name
same_listed xs ys same (optional name) = ((λ h. h), (λ h. h))

-- While P holds, each answer is by the rule, and P holds after it.
module _ {S : Type 0} (gives : S → Graph → Text × LabelName → Bool → S → Type 0) (g : Graph) (P : S → Type 0) (listed : List Text) (step : (s : S) (name : Text × LabelName) (answer : Bool) (t : S) → P s → gives s g name answer t → P t × Rules g.tables listed name answer) where
  ruled : (run : Run) (s t : S) (k : ℕ) (name : Text × LabelName) (answer : Bool) → P s → Ran gives g s run t → slice_get run k ≡ Some (name, answer) → Rules g.tables listed name answer
  ruled [] s t k name answer holds ran h = cc
  ruled ((other, b) ∷ run) s t zero name answer holds (m, given, ran) h =
      let same : other ≡ name = first_is other name b answer h in
      let also : b ≡ answer = answer_is other name b answer h in
      subst (λ y. Rules g.tables listed y answer) same (subst (λ y. Rules g.tables listed other y) also (step s other b m holds given).1)
  ruled ((other, b) ∷ run) s t (suc k) name answer holds (m, given, ran) h = ruled run m t k name answer (step s other b m holds given).0 ran h

  pub selects : (s t : S) (initials : List Bool) (names : List Text) → P s → SameElements listed names → SelectsByFilter gives g s t initials
      → (n : ℕ) → IsTrue (has initials n) ↔ IsSelected g.tables names n
  selects s t initials names holds same sel n = (
    (λ h.
        let among = (sel.exact.exact n).0 h in
        let place = asked sel.run among.0 among.1 among.2 in
        let rules = ruled sel.run s t place.0 among.1 true holds sel.steps place.1 in
        record {
          name = among.1;
          named = among.3;
          in_workspace = contains_at (workspace_names g.tables) place.0 among.1 (subst (λ l. slice_get l place.0 ≡ Some among.1) sel.each (name_at sel.run place.0 among.1 true place.1));
          chosen = ⊎_elim (λ own. inl ((rules.default.tells n among.3).0 own)) (λ lists. inr ((same_listed listed names same among.1.1).0 lists)) (rules.rule.0 refl);
        }),
    (λ h.
        let place = at_contains (workspace_names g.tables) h.name h.in_workspace in
        let question = answer_at sel.run place.0 h.name (subst (λ l. slice_get l place.0 ≡ Some h.name) (sym sel.each) place.1) in
        let rules = ruled sel.run s t place.0 h.name question.0 holds sel.steps question.1 in
        let accepts : IsTrue question.0 = rules.rule.1 (⊎_elim (λ own. inl ((rules.default.tells n h.named).1 own)) (λ lists. inr ((same_listed listed names same h.name.1).1 lists)) h.chosen) in
        let there = stands sel.run place.0 h.name (subst (λ b. slice_get sel.run place.0 ≡ Some (h.name, b)) accepts question.1) in
        (sel.exact.exact n).1 (there.0, h.name, there.1, h.named)),
  )

-- The steps of the filter, if its base is a standard filter.
abbrev pub Gives : NamedFeatureFilter StandardFeatures → Graph → Text × LabelName → Bool → NamedFeatureFilter StandardFeatures → Type 0
Gives s g i r t =
    (listed_names t ≡ listed_names s) × AddsToBase (λ (p : StandardFeatures) h j b q. (q ≡ p) × StandardAccepts p h.tables j b) (base_of_names s) g i r (base_of_names t) (ListsLabel (listed_names s) i.1)

-- It keeps its base and its list.
abbrev pub IsDefaultWith : List Text → NamedFeatureFilter StandardFeatures → Type 0
IsDefaultWith listed s = (base_of_names s ≡ Default) × (listed_names s ≡ listed)

pub answers_by_rule : (g : Graph) (listed : List Text) (s : NamedFeatureFilter StandardFeatures) (name : Text × LabelName) (answer : Bool) (t : NamedFeatureFilter StandardFeatures)
    → IsDefaultWith listed s → Gives s g name answer t → IsDefaultWith listed t × Rules g.tables listed name answer
answers_by_rule g listed s name answer t holds (same, (own, step, rule)) = (
  (step.0 ∙ holds.0, same ∙ holds.1),
  record {
    own = own;
    default = subst (λ f. StandardAccepts f g.tables name own) holds.0 step.1;
    rule = subst (λ l. IsTrue answer ↔ (IsTrue own ⊎ ListsLabel l name.1)) holds.1 rule;
  },
)
