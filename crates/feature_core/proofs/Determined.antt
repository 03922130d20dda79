-- Tables determine the data built from them.
use Rattle.std.proofs.Common.{◌≡◌, ℕ, suc, ◌+◌, ◌<◌, ◌⊎◌, length, get_or, ⊎_elim, List, ◌∷◌, [], Bool, true, false, map, refl, ap, sym, ◌∙◌, subst, arith, Some, None, Option}
use Rattle.std.specs.Prelude.{◌↔◌, IsTrue, Contains, AllPairs, filter_map, slice_get}
use Rattle.std.specs.List.{cons_option}
use Rattle.std.proofs.Math.Logic.{∥∥₁_elim}
use Rattle.std.proofs.Props.{props}
use Rattle.std.proofs.lemmas.List.{length-map, get_or-map}
use Rattle.digraphs.specs.Bits.{has}
use Rattle.feature_edges.specs.guppy_packages.Tables.{Tables, AreTables, optional_place}
use Rattle.feature_edges.specs.feature_labels.Names.LabelName.{optional}
use Rattle.feature_edges.specs.guppy_packages.declared.direction.DependencyDirection.{DependencyDirection}
use Rattle.feature_core.specs.Built.{Built, IsBuilt, AreAlike}
use Rattle.feature_core.specs.Offers.{content_of}
use Rattle.feature_core.specs.Ways.{content}
use Rattle.feature_edges.specs.Nodes.{NodeAt, labels_of, first_node}
use Rattle.feature_edges.specs.Candidates.{Edge, feature_to_base, named_feature, dep_colon, slash_full, slash_optional, slash_weak, section}
use Rattle.feature_edges.specs.feature_links.Facts.{EdgeFacts}
use Rattle.feature_edges.specs.Edges.{EdgeSays, AreBuilt, IsGate, facts_of, weak_link, first_ones}
use Rattle.feature_core.specs.Defaults.{AreDefaults}
use Rattle.feature_edges.specs.Warnings.{Warning}
use Rattle.feature_edges.proofs.AddsLemmas.{Contains-first, Contains-later, Contains-cases, Contains-none}
use Rattle.feature_edges.proofs.LabelLemmas.{optional_found, optional_missing}
use Rattle.feature_edges.proofs.LeastKeys.{AllPairs-first, AllPairs-later}
use Rattle.feature_edges.proofs.NodeLabels.{element_within}
use Rattle.feature_edges.specs.EdgesOnce.{Contains-prop}
use Rattle.feature_edges.proofs.Places.{IsSpread, node_back}
use Rattle.feature_edges.proofs.PushLemmas.{from_map, into_map}

-- ascending lists with the same elements are equal
module _ {X : Type 0} (R : X → X → Type 0) (never : (x y : X) → R x y → R y x → ⊥) where
  later_is : (x : X) (xs : List X) → AllPairs R (x ∷ xs) → (y : X) → Contains xs y → R x y
  later_is x xs h y c = subst (λ z. R x z) c.2 (AllPairs-first R x xs h c.0 y c.1)

  same_first : (x y : X) (xs ys : List X) → AllPairs R (x ∷ xs) → AllPairs R (y ∷ ys) → Contains (y ∷ ys) x → Contains (x ∷ xs) y → x ≡ y
  same_first x y xs ys a b c d =
      ⊎_elim
      (λ e. sym e)
      (λ i. ⊎_elim
      (λ e. e)
      (λ j. absurd (never x y (later_is x xs a y j) (later_is y ys b x i)))
      (Contains-cases x xs y d))
      (Contains-cases y ys x c)

  in_rest : (x y : X) (xs ys : List X) → AllPairs R (x ∷ xs) → x ≡ y → ((z : X) → Contains (x ∷ xs) z → Contains (y ∷ ys) z) → (z : X) → Contains xs z → Contains ys z
  in_rest x y xs ys a e f z c =
      let after : R x z = later_is x xs a z c in
      ⊎_elim
      (λ i. absurd (never x x (subst (λ v. R x v) (sym i ∙ sym e) after) (subst (λ v. R x v) (sym i ∙ sym e) after)))
      (λ i. i)
      (Contains-cases y ys z (f z (Contains-later x xs z c)))

  pub one_ascending : (xs ys : List X) → AllPairs R xs → AllPairs R ys → ((z : X) → Contains xs z → Contains ys z) → ((z : X) → Contains ys z → Contains xs z) → xs ≡ ys
  one_ascending [] [] a b f g = refl
  one_ascending [] (y ∷ ys) a b f g = absurd (Contains-none y (g y (Contains-first y ys)))
  one_ascending (x ∷ xs) [] a b f g = absurd (Contains-none x (f x (Contains-first x xs)))
  one_ascending (x ∷ xs) (y ∷ ys) a b f g =
      let e : x ≡ y = same_first x y xs ys a b (f x (Contains-first x xs)) (g y (Contains-first y ys)) in
      let rest : xs ≡ ys = one_ascending xs ys (AllPairs-later R x xs a) (AllPairs-later R y ys b) (in_rest x y xs ys a e f) (in_rest y x ys xs b (sym e) g) in
      ap (λ z. z ∷ xs) e ∙ ap (λ z. y ∷ z) rest

-- sorted by source and then by target
abbrev IsEarlier : {X : Type 0} → ℕ × ℕ × X → ℕ × ℕ × X → Type 0
IsEarlier a b = (a.0 < b.0) ⊎ ((a.0 ≡ b.0) × (a.1 < b.1))

never_both : {X : Type 0} (a b : ℕ × ℕ × X) → IsEarlier a b → IsEarlier b a → ⊥
never_both a b h i = ⊎_elim (λ l. ⊎_elim (λ m. omega (arith, l, m)) (λ m. omega (arith, l, m.0)) i) (λ l. ⊎_elim (λ m. omega (arith, l.0, m)) (λ m. omega (arith, l.1, m.1)) i) h

ascends_map : {X Y : Type 0} (f : X → Y) (R : Y → Y → Type 0) (xs : List X) → AllPairs (λ a b. R (f a) (f b)) xs → AllPairs R (map f xs)
ascends_map f R xs h i j e l m =
    let within : j < length xs = omega (arith, m, length-map xs f) in
    let d = (element_within xs j within).0 in
    let at_i : get_or (map f xs) i e ≡ f (get_or xs i d) = get_or-map f xs i d e (omega arith) in
    let at_j : get_or (map f xs) j e ≡ f (get_or xs j d) = get_or-map f xs j d e within in
    subst (λ z. R z (get_or (map f xs) j e)) (sym at_i) (subst (λ z. R (f (get_or xs i d)) z) (sym at_j) (h i j d l within))

-- the two nodes of an edge, and its package link if it is weak
abbrev named_link : ℕ × ℕ × EdgeFacts → ℕ × ℕ × Option ℕ
named_link x = (x.0, x.1, weak_link x.2)

-- a built edge names one package link, for any weak links
named_alike : (t : Tables) (v w : List ℕ) (e : Edge) → weak_link (facts_of t v e) ≡ weak_link (facts_of t w e)
named_alike t v w feature_to_base = refl
named_alike t v w named_feature = refl
named_alike t v w (dep_colon l) = refl
named_alike t v w (slash_full l) = refl
named_alike t v w (slash_optional l) = refl
named_alike t v w (slash_weak k l) = refl
named_alike t v w (section l) = refl

option-set : IsSet (ℕ × ℕ × Option ℕ)
option-set = hlevel props

named_ascend : (t : Tables) (a : List (ℕ × ℕ × EdgeFacts)) (v : List (ℕ × ℕ)) → AreBuilt t a v → AllPairs IsEarlier (map named_link a)
named_ascend t a v h = ascends_map named_link IsEarlier a h.ascends

never_earlier : (a : ℕ × ℕ × Option ℕ) → IsEarlier a a → ⊥
never_earlier a h = never_both a a h h

-- the links that edges name are in each list that is built
named_there : (t : Tables) (a b : List (ℕ × ℕ × EdgeFacts)) (v w : List (ℕ × ℕ)) → AreBuilt t a v → AreBuilt t b w → (z : ℕ × ℕ × Option ℕ) → Contains (map named_link a) z → Contains (map named_link b) z
named_there t a b v w h i z c =
    let x = from_map named_link a z c in
    let there : IsProp (Contains (map named_link b) z) = Contains-prop IsEarlier never_earlier option-set (map named_link b) (named_ascend t b w i) z in
    ∥∥₁_elim ((h.exact x.0.0 x.0.1 x.0.2).0 x.1) there (λ s.
    let f : EdgeFacts = facts_of t (map (λ y. y.0) w) s.0 in
    let listed : Contains b (x.0.0, x.0.1, f) = (i.exact x.0.0 x.0.1 f).1 ∣ (s.0, s.1, refl) ∣₁ in
    let same : weak_link f ≡ weak_link x.0.2 = named_alike t (map (λ y. y.0) w) (map (λ y. y.0) v) s.0 ∙ ap weak_link (sym s.2) in
    subst (λ z. Contains (map named_link b) z) (ap (λ o. (x.0.0, x.0.1, o)) same ∙ x.2) (into_map named_link b (x.0.0, x.0.1, f) listed))

named_links : (a : List (ℕ × ℕ × EdgeFacts)) → filter_map (λ (e : ℕ × ℕ × Option ℕ). e.2) (map named_link a) ≡ filter_map (λ e. weak_link e.2) a
named_links [] = refl
named_links (x ∷ xs) = ap (cons_option (weak_link x.2)) (named_links xs)

-- the weak links are determined
one_numbers : (t : Tables) (a b : List (ℕ × ℕ × EdgeFacts)) (v w : List (ℕ × ℕ)) → AreBuilt t a v → AreBuilt t b w → map (λ x. x.0) v ≡ map (λ x. x.0) w
one_numbers t a b v w h i =
    let same : map named_link a ≡ map named_link b = one_ascending IsEarlier never_both (map named_link a) (map named_link b) (named_ascend t a v h) (named_ascend t b w i) (named_there t a b v w h i) (named_there t b a w v i h) in
    h.links
    ∙ ap first_ones (sym (named_links a) ∙ ap (filter_map (λ (e : ℕ × ℕ × Option ℕ). e.2)) same ∙ named_links b)
    ∙ sym i.links

-- the built edges are determined
one_edges : (t : Tables) (a b : List (ℕ × ℕ × EdgeFacts)) (v w : List (ℕ × ℕ)) → AreBuilt t a v → AreBuilt t b w → a ≡ b
one_edges t a b v w h i =
    let same = one_numbers t a b v w h i in
    one_ascending IsEarlier never_both a b h.ascends i.ascends
    (λ x c. (i.exact x.0 x.1 x.2).1 (subst (λ z. EdgeSays t z x.0 x.1 x.2) same ((h.exact x.0 x.1 x.2).0 c)))
    (λ x c. (h.exact x.0 x.1 x.2).1 (subst (λ z. EdgeSays t z x.0 x.1 x.2) (sym same) ((i.exact x.0 x.1 x.2).0 c)))

-- an optional name of a package has one node
pub one_node : (t : Tables) → AreTables t → (p m n : ℕ) (name : List ℕ) → NodeAt t m p (optional name) → NodeAt t n p (optional name) → m ≡ n
one_node t tables p m n name a b = go (optional_place name s.row.optional_names) refl
  where
    s : IsSpread labels_of t.packages m p (optional name)
    s = node_back t m p (optional name) a

    none_some : (k : ℕ) → ◌≡◌ {A = Option ℕ} None (Some k) → ⊥
    none_some k e = cc

    both_some : (j k i : ℕ) → ◌≡◌ {A = Option ℕ} (Some j) (Some k) → ◌≡◌ {A = Option ℕ} (Some j) (Some i) → k ≡ i
    both_some j k i e f = cc

    go : (o : Option ℕ) → optional_place name s.row.optional_names ≡ o → m ≡ n
    go None e = absurd (none_some m ((optional_missing t p s.row s.is_row name e m).1 a))
    go (Some k) e =
        let there : ℕ = first_node t p + (1 + length s.row.features + k) in
        both_some there m n ((optional_found t p s.row s.is_row tables name k there e refl m).1 a) ((optional_found t p s.row s.is_row tables name k there e refl n).1 b)

-- a weak link has one gate
one_gate : (t : Tables) → AreTables t → (k g h : ℕ) → IsGate t k g → IsGate t k h → g ≡ h
one_gate t tables k g h a b =
    let link = element_within t.links k a.within in
    one_node t tables link.0.from g h link.0.name (a.node link.0 link.1) (b.node link.0 link.1)

-- the weak links with their gates are determined
one_weak : (t : Tables) → AreTables t → (a b : List (ℕ × ℕ)) → map (λ x. x.0) a ≡ map (λ x. x.0) b
    → ((i k gate : ℕ) → slice_get a i ≡ Some (k, gate) → IsGate t k gate) → ((i k gate : ℕ) → slice_get b i ≡ Some (k, gate) → IsGate t k gate) → a ≡ b
one_weak t tables [] [] e f g = refl
one_weak t tables [] (y ∷ ys) e f g = cc
one_weak t tables (x ∷ xs) [] e f g = cc
one_weak t tables (x ∷ xs) (y ∷ ys) e f g =
    let k : x.0 ≡ y.0 = cc in
    let more : map (λ x. x.0) xs ≡ map (λ x. x.0) ys = cc in
    let gate : x.1 ≡ y.1 = one_gate t tables y.0 x.1 y.1 (subst (λ z. IsGate t z x.1) k (f 0 x.0 x.1 refl)) (g 0 y.0 y.1 refl) in
    let first : x ≡ y = ap (λ z. (z, x.1)) k ∙ ap (λ z. (y.0, z)) gate in
    ap (λ z. z ∷ xs) first ∙ ap (λ z. y ∷ z) (one_weak t tables xs ys more (λ i. f (suc i)) (λ i. g (suc i)))

one_links : (t : Tables) → AreTables t → (a b : List (ℕ × ℕ × EdgeFacts)) (v w : List (ℕ × ℕ)) → AreBuilt t a v → AreBuilt t b w → v ≡ w
one_links t tables a b v w h i = one_weak t tables v w (one_numbers t a b v w h i) h.gates i.gates

-- lists of one length with the same members are equal
one_set : (a b : List Bool) → length a ≡ length b → ((n : ℕ) → IsTrue (has a n) → IsTrue (has b n)) → ((n : ℕ) → IsTrue (has b n) → IsTrue (has a n)) → a ≡ b
one_set [] [] l f g = refl
one_set [] (y ∷ ys) l f g = absurd (omega (arith, l))
one_set (x ∷ xs) [] l f g = absurd (omega (arith, l))
one_set (x ∷ xs) (y ∷ ys) l f g =
    ap (λ z. z ∷ xs) (one_mark x y (f 0) (g 0)) ∙ ap (λ z. y ∷ z) (one_set xs ys (omega (arith, l)) (λ n. f (suc n)) (λ n. g (suc n)))
  where
    one_mark : (x y : Bool) → (IsTrue x → IsTrue y) → (IsTrue y → IsTrue x) → x ≡ y
    one_mark true y f g = sym (f refl)
    one_mark false true f g = g refl
    one_mark false false f g = refl

-- the features that are on by default are determined
one_defaults : (t : Tables) (a b : List Bool) → AreDefaults t a → AreDefaults t b → a ≡ b
one_defaults t a b h i = one_set a b (h.long ∙ sym i.long) (λ n m. (i.exact n).1 ((h.exact n).0 m)) (λ n m. (h.exact n).1 ((i.exact n).0 m))

abbrev of_parts : ℕ → List ℕ → List ℕ → List (ℕ × ℕ × EdgeFacts) → List (ℕ × ℕ) → List Warning → List Bool → Built
of_parts stamp firsts packages edges weak warnings defaults = record { stamp = stamp; firsts = firsts; packages = packages; edges = edges; weak = weak; warnings = warnings; defaults = defaults }

-- data equal in each part is equal
alike_same : (a b : Built) → AreAlike a b → a ≡ b
alike_same a b h =
    ap (λ z. of_parts z a.firsts a.packages a.edges a.weak a.warnings a.defaults) h.0
    ∙ ap (λ z. of_parts b.stamp z a.packages a.edges a.weak a.warnings a.defaults) h.1
    ∙ ap (λ z. of_parts b.stamp b.firsts z a.edges a.weak a.warnings a.defaults) h.2
    ∙ ap (λ z. of_parts b.stamp b.firsts b.packages z a.weak a.warnings a.defaults) h.3
    ∙ ap (λ z. of_parts b.stamp b.firsts b.packages b.edges z a.warnings a.defaults) h.4
    ∙ ap (λ z. of_parts b.stamp b.firsts b.packages b.edges b.weak z a.defaults) h.5
    ∙ ap (λ z. of_parts b.stamp b.firsts b.packages b.edges b.weak b.warnings z) h.6

-- two builds of one graph under one stamp are equal
pub determined : (t : Tables) → AreTables t → (a b : Built) → IsBuilt t a → IsBuilt t b → a.stamp ≡ b.stamp → AreAlike a b
determined t tables a b x y s = (
  s,
  x.firsts ∙ sym y.firsts,
  x.packages ∙ sym y.packages,
  one_edges t a.edges b.edges a.weak b.weak x.edges y.edges,
  one_links t tables a.edges b.edges a.weak b.weak x.edges y.edges,
  x.warnings ∙ sym y.warnings,
  one_defaults t a.defaults b.defaults x.defaults y.defaults,
)

-- data equals a build if and only if it was built from the graph
pub same_as_built : (t : Tables) → AreTables t → (a b : Built) (same : Bool) → IsBuilt t a → a.stamp ≡ b.stamp → IsTrue same ↔ AreAlike a b → IsTrue same ↔ IsBuilt t b
same_as_built t tables a b true x s h = ((λ p. subst (λ z. IsBuilt t z) (alike_same a b (h.0 refl)) x), (λ y. refl))
same_as_built t tables a b false x s h = ((λ p. absurd (never p)), (λ y. absurd (never (h.1 (determined t tables a b x y s)))))
  where
    never : IsTrue false → ⊥
    never p = cc

-- the content that walks follow is determined
pub one_content : (t : Tables) → AreTables t → (a b : Built) (direction : DependencyDirection) → IsBuilt t a → IsBuilt t b → content_of direction a ≡ content_of direction b
one_content t tables a b direction x y =
    same_content direction (length a.packages) (length b.packages) a.edges b.edges a.weak b.weak (ap length (x.packages ∙ sym y.packages))
    (one_edges t a.edges b.edges a.weak b.weak x.edges y.edges)
    (one_links t tables a.edges b.edges a.weak b.weak x.edges y.edges)
  where
    same_content : (direction : DependencyDirection) (m n : ℕ) (xs ys : List (ℕ × ℕ × EdgeFacts)) (v w : List (ℕ × ℕ)) → m ≡ n → xs ≡ ys → v ≡ w → content direction m xs v ≡ content direction n ys w
    same_content direction m n xs ys v w e f g = ap (λ z. content direction z xs v) e ∙ ap (λ z. content direction n z v) f ∙ ap (λ z. content direction n ys z) g
