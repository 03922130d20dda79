-- Links that hold on a platform.
use Rattle.std.proofs.Common.{◌≡◌, ◌∙◌, Bool, true, false, ◌||◌, List, [], ◌∷◌, Option, Some, None, map, refl, ap, sym}
use Rattle.std.specs.List.{list_any}
use Rattle.std.specs.Option.{option_map, option_map_or}
use Rattle.guppy_packages.specs.Platform.{Status}
use Rattle.guppy_packages.specs.Rows.{Text}
use Rattle.guppy_packages.specs.declared.row.DependencyKind.{DependencyKind}
use Rattle.feature_links.specs.Links.{LinkFacts}
use Rattle.feature_graph.specs.LinkValues.{Link, facts_of, status_for}
use Rattle.walk_engine.specs.Laws.{AnswersBy}
use Rattle.walk_engine.specs.Walks.{Call, GoesAlong}
use Rattle.feature_graph.specs.Values.{Query}
use Rattle.feature_graph.specs.Visits.{offered, shown}
use Rattle.guppy_features.specs.Platforms.{holds_where, is_for_platform, is_platform_link}
use Rattle.std.proofs.lemmas.Option.{none-some, same_Some}

mapped_is : {A B : Type 0} (f : A → B) (o : Option A) (b : B) → option_map f o ≡ Some b → (a : A) × (o ≡ Some a) × (f a ≡ b)
mapped_is f None b h = absurd (none-some b h)
mapped_is f (Some a) b h = (a, refl, same_Some _ _ h)

pub any_same : {X : Type 0} (p q : X → Bool) (xs : List X) → ((x : X) → p x ≡ q x) → list_any p xs ≡ list_any q xs
any_same p q [] same = refl
any_same p q (x ∷ xs) same = ap (λ b. b || list_any p xs) (same x) ∙ ap (λ b. q x || b) (any_same p q xs same)

pub any_of_made : {X Y : Type 0} (f : X → Y) (test : Y → Bool) (xs : List X) → list_any test (map f xs) ≡ list_any (λ x. test (f x)) xs
any_of_made f test [] = refl
any_of_made f test (x ∷ xs) = ap (λ b. test (f x) || b) (any_of_made f test xs)

none_any : {X : Type 0} (xs : List X) → list_any (λ (x : X). false) xs ≡ false
none_any [] = refl
none_any (x ∷ xs) = none_any xs

or_false : (b : Bool) → (b || false) ≡ b
or_false true = refl
or_false false = refl

-- a link is for some of the kinds if it is for one of them
pub by_kinds : (kinds : List DependencyKind) (specs : List Text) (l : Link) → list_any (λ kind. is_platform_link (kind ∷ []) specs l) kinds ≡ is_platform_link kinds specs l
by_kinds kinds specs l = by (facts_of l)
  where
    by : (o : Option LinkFacts) → list_any (λ kind. option_map_or (is_for_platform (kind ∷ []) specs) o false) kinds ≡ option_map_or (is_for_platform kinds specs) o false
    by None = none_any kinds
    by (Some facts) = any_same (λ kind. is_for_platform (kind ∷ []) specs facts) (λ kind. holds_where specs (status_for kind facts)) kinds (λ kind. or_false (holds_where specs (status_for kind facts)))

-- the status for one kind decides whether the link is for it
pub by_status : (kind : DependencyKind) (specs : List Text) (l : Link) (status : Status) → option_map (status_for kind) (facts_of l) ≡ Some status → holds_where specs status ≡ is_platform_link (kind ∷ []) specs l
by_status kind specs l status is =
    let facts = mapped_is (status_for kind) (facts_of l) status is in
    ap (holds_where specs) (sym facts.2)
    ∙ sym (or_false (holds_where specs (status_for kind facts.0)))
    ∙ ap (λ o. option_map_or (is_for_platform (kind ∷ []) specs) o false) (sym facts.1)

-- a visitor that keeps its state and decides by a test of links decides by the test of offers
answers_along : {V : Type 0} (test : Link → Bool) (gives : V → Query → Link → Bool → V → Type 0) (s : V) → ((u : V) (q : Query) (l : Link) (answer : Bool) (t : V) → u ≡ s → gives u q l answer t → (t ≡ s) × (answer ≡ test l))
    → (q : Query) (run : List Call) (t : V) → GoesAlong (shown gives q) s run t → t ≡ s
answers_along test gives s step q [] t same = sym same
answers_along test gives s step q (call ∷ before) t (m, along, given) = (step m q (offered q.graph call.edge call.half) call.answer t (answers_along test gives s step q before m along) given).0

pub answers_by : {V : Type 0} (test : Link → Bool) (gives : V → Query → Link → Bool → V → Type 0) (s : V) → ((u : V) (q : Query) (l : Link) (answer : Bool) (t : V) → u ≡ s → gives u q l answer t → (t ≡ s) × (answer ≡ test l))
    → (q : Query) → AnswersBy (shown gives q) (λ e h. test (offered q.graph e h)) s
answers_by test gives s step q run t u e h answer along given = (step t q (offered q.graph e h) answer u (answers_along test gives s step q run t along) given).1
