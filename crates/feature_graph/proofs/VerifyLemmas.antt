-- Edges whose links are present, and the nodes of edges.
use Rattle.std.proofs.Common.{◌≡◌, ℕ, zero, suc, ◌+◌, ◌<◌, List, [], ◌∷◌, Bool, true, false, cond, Option, None, Some, length, refl, ap, sym, ◌∙◌, subst, arith}
use Rattle.std.specs.Prelude.{slice_get, IsTrue, IsFalse, not, nat_lt, position}
use Rattle.std.specs.List.{position_or_len}
use Rattle.std.specs.Option.{option_map, option_map_or}
use Rattle.std.proofs.lemmas.Option.{slice_get-map}
use Rattle.guppy_packages.specs.Rows.{Text}
use Rattle.guppy_packages.specs.Tables.{Tables}
use Rattle.guppy_packages.specs.declared.direction.DependencyDirection.TheVariants.{Forward}
use Rattle.walk_engine.specs.Walks.{EndsAreNodes}
use Rattle.feature_labels.specs.Names.{LabelName}
use Rattle.feature_core.specs.Built.{Built, NodeNamed}
use Rattle.feature_links.specs.Facts.{EdgeFacts, full_link, is_present, has_present_link}
use Rattle.feature_links.specs.Links.{LinkFacts}
use Rattle.feature_core.specs.Offers.{content_of}
use Rattle.feature_core.specs.Ways.{way}
use Rattle.feature_core.specs.Present.{ArePresent}
use Rattle.feature_graph.proofs.ListLemmas.{place_below, position_there, position_missing, got_same}
use Rattle.feature_graph.specs.Verified.{IsFirstAbsent}

false_of : (b : Bool) → not b ≡ true → b ≡ false
false_of true h = cc
false_of false h = refl

true_of : (b : Bool) → not b ≡ false → b ≡ true
true_of true h = refl
true_of false h = cc

-- no element before the first that passes does
before_or_len : {X : Type 0} (p : X → Bool) (xs : List X) (k : ℕ) (x : X) → k < position_or_len p xs → slice_get xs k ≡ Some x → p x ≡ false
before_or_len p [] k x l at = cc
before_or_len p (y ∷ ys) k x l at = go (p y) refl k l at (λ k l at. before_or_len p ys k x l at)
  where
    go : (b : Bool) → p y ≡ b → (k : ℕ) → k < cond (not b) (1 + position_or_len p ys) 0 → slice_get (y ∷ ys) k ≡ Some x
        → ((k : ℕ) → k < position_or_len p ys → slice_get ys k ≡ Some x → p x ≡ false) → p x ≡ false
    go true e k l at more = absurd (omega (arith, l))
    go false e zero l at more = let same : y ≡ x = cc in subst (λ z. p z ≡ false) same e
    go false e (suc k) l at more = more k (omega (arith, l)) at

place_is : {X : Type 0} (p : X → Bool) (xs : List X) (n : ℕ) → position p xs ≡ Some n → n ≡ position_or_len p xs
place_is p xs n h = go (nat_lt (position_or_len p xs) (length xs)) h
  where
    go : (b : Bool) → cond b (Some (position_or_len p xs)) None ≡ Some n → n ≡ position_or_len p xs
    go true e = cc
    go false e = cc

-- an edge passes if its link, if any, is present
passes_by : (f : EdgeFacts) → ((l : LinkFacts) → full_link f ≡ Some l → IsTrue (is_present l)) → IsTrue (has_present_link f)
passes_by f h = go (full_link f) h
  where
    go : (o : Option LinkFacts) → ((l : LinkFacts) → o ≡ Some l → IsTrue (is_present l)) → IsTrue (option_map_or is_present o true)
    go None h = refl
    go (Some l) h = h l refl

passing_link : (f : EdgeFacts) (l : LinkFacts) → has_present_link f ≡ true → full_link f ≡ Some l → IsTrue (is_present l)
passing_link f l h e = subst (λ o. option_map_or is_present o true ≡ true) e h

-- the link of an edge that doesn't pass
record HasAbsent (f : EdgeFacts) : Type 0 where
  link : LinkFacts
  is_link : full_link f ≡ Some link
  is_absent : IsFalse (is_present link)

absent_link : (f : EdgeFacts) → has_present_link f ≡ false → HasAbsent f
absent_link f h = go (full_link f) refl h
  where
    go : (o : Option LinkFacts) → full_link f ≡ o → option_map_or is_present o true ≡ false → HasAbsent f
    go None e i = cc
    go (Some l) e i = record { link = l; is_link = e; is_absent = i }

abbrev pub first_absent : List (ℕ × ℕ × EdgeFacts) → Option ℕ
first_absent edges = position (λ e. not (has_present_link e.2)) edges

-- if no edge is found, all edges pass
pub none_absent : (edges : List (ℕ × ℕ × EdgeFacts)) → first_absent edges ≡ None → ArePresent edges
none_absent edges h k e l at is = go (has_present_link e.2) refl
  where
    go : (b : Bool) → has_present_link e.2 ≡ b → IsTrue (is_present l)
    go true i = passing_link e.2 l i is
    go false i = absurd (position_missing (λ e. not (has_present_link e.2)) k edges e h at (ap not i))

-- if an edge is found, not all edges pass
pub some_absent : (edges : List (ℕ × ℕ × EdgeFacts)) (n : ℕ) → first_absent edges ≡ Some n → ArePresent edges → ⊥
some_absent edges n h present =
    let q = position_there (λ e. not (has_present_link e.2)) n edges h in
    let passes : has_present_link q.element.2 ≡ true = passes_by q.element.2 (λ l is. present n q.element l q.there is) in
    let fails : has_present_link q.element.2 ≡ false = false_of (has_present_link q.element.2) q.passes in
    cc

-- the nodes of an edge are nodes of the graph
pub edge_within : (b : Built) → EndsAreNodes (content_of Forward b) → (k : ℕ) (e : ℕ × ℕ × EdgeFacts) → slice_get b.edges k ≡ Some e → (e.0 < length b.packages) × (e.1 < length b.packages)
edge_within b ends k e at =
    let w = ends k (way Forward b.weak e) (slice_get-map (way Forward b.weak) b.edges k ∙ ap (option_map (way Forward b.weak)) at) in
    (w.0, w.1)

-- the first edge that fails, with the names of its nodes
pub first_named : (t : Tables) (edges : List (ℕ × ℕ × EdgeFacts)) (n : ℕ) (e : ℕ × ℕ × EdgeFacts) (from to : Text × LabelName) → first_absent edges ≡ Some n → slice_get edges n ≡ Some e
    → NodeNamed t e.0 from → NodeNamed t e.1 to → IsFirstAbsent t edges from to
first_named t edges n e from to h at from_node to_node =
    let q = position_there (λ e. not (has_present_link e.2)) n edges h in
    let same : ◌≡◌ {A = Option (ℕ × ℕ × EdgeFacts)} (Some q.element) (Some e) = sym q.there ∙ at in
    let fails : has_present_link e.2 ≡ false = subst (λ z. has_present_link z.2 ≡ false) (got_same q.element e same) (false_of (has_present_link q.element.2) q.passes) in
    let a = absent_link e.2 fails in
    let place : n ≡ position_or_len (λ e. not (has_present_link e.2)) edges = place_is (λ e. not (has_present_link e.2)) edges n h in
    record {
      place = n;
      edge = e;
      at = at;
      link = a.link;
      is_link = a.is_link;
      absent = a.is_absent;
      before = λ k other l there. true_of (has_present_link other.2) (before_or_len (λ e. not (has_present_link e.2)) edges k other (omega (arith, l, place)) there);
      from_node = from_node;
      to_node = to_node;
    }

pub found_below : (edges : List (ℕ × ℕ × EdgeFacts)) (n : ℕ) → first_absent edges ≡ Some n → n < length edges
found_below edges n h = let q = position_there (λ e. not (has_present_link e.2)) n edges h in place_below edges n q.element q.there
