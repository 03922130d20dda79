-- The keys of a pair from a link's declarations are those of the declarations that request it.
use Rattle.std.proofs.Common.{◌≡◌, ℕ, ◌<◌, ◌≤◌, inl, inr, ⊎_elim, List, [], ◌∷◌, map, length, get_or, Bool, true, false, cond, refl, ap, sym, ◌∙◌, subst, arith, Some, eqb}
use Rattle.std.specs.Prelude.{Contains, AllPairs, ◌↔◌, IsTrue, slice_get, not, ◌&&◌, All}
use Rattle.std.specs.List.{dedup, dedup_from}
use Rattle.std.proofs.lemmas.Bool.Decides.{nat_tests}
use Rattle.std.proofs.lemmas.List.Elements.{All-cons, All-head, All-tail, All-weaker, Contains-get_or}
use Rattle.std.proofs.lemmas.List.Filters.{All-dedup}
use Rattle.std.proofs.lemmas.List.Kept.{AllPairs-cons, Contains-from_dedup, Contains-dedup_nat}
use Rattle.std.proofs.lemmas.List.{get_or-map, length-map}
use Rattle.guppy_packages.specs.Rows.{Text, Declared}
use Rattle.guppy_packages.specs.Tables.{LinkTable, Tables, AreTables, FeatureTable}
use Rattle.guppy_packages.specs.Items.{Item, feature_item, optional_item, slash_item, item_of}
use Rattle.feature_labels.specs.Names.{LabelName}
use Rattle.feature_labels.specs.Names.LabelName.{base, optional}
use Rattle.feature_labels.specs.declared.link_declarations.LinkDeclarations.{LinkDeclarations}
use Rattle.feature_labels.specs.declared.link_declarations.LinkDeclarations.TheVariants.{Required, Optional}
use Rattle.feature_edges.specs.declared.candidate.CandidateKind.{CandidateKind}
use Rattle.feature_edges.specs.declared.candidate.CandidateKind.TheVariants.{SlashFull, SlashWeak, Section}
use Rattle.feature_edges.specs.Nodes.{NodeAt, node_packages}
use Rattle.feature_edges.proofs.LeastKeys.{AllPairs-first, AllPairs-later, cond_has}
use Rattle.feature_edges.proofs.MaterialLemmas.{node_within}
use Rattle.feature_links.specs.Links.{LinkFacts, IsLink, includes, has_declaration, ArePassing}
use Rattle.feature_edges.specs.Candidates.{requests, requesting}
use Rattle.feature_edges.specs.declared.candidate.Key.{Key}
use Rattle.feature_edges.specs.inner.Made.{IsRun}
use Rattle.feature_edges.specs.inner.Keys.{rank, IsNoLater}
use Rattle.feature_edges.specs.inner.Parts.{key, IsOfItem, IsOfPackageAt, IsOfTables, start_of}
use Rattle.feature_edges.proofs.PushLemmas.{from_map, into_map}
use Rattle.feature_edges.proofs.KeyRuns.{run_least}
use Rattle.feature_edges.proofs.KindLemmas.{last_kind}
use Rattle.feature_edges.proofs.KeySays.{SaysSection}
use Rattle.feature_edges.proofs.Ranks.{same_home, same_label, same_link}

-- a key of a declaration of a link
record IsSectionKey (t : Tables) (y : Key) : Type 0 where
  link : LinkTable
  is_link : IsLink t y.source link
  declared : Declared
  at : slice_get link.declarations y.place ≡ Some declared
  from_node : NodeAt t y.from link.from (start_of link declared)
  asked : LabelName
  is_requested : IsTrue (requests declared asked)
  to_node : NodeAt t y.to link.to asked

ranked : (y : Key) (u w : ℕ) (kind : CandidateKind) (source place : ℕ) → y ≡ key u w kind source place → y.kind ≡ Section → rank kind ≡ rank Section
ranked y u w kind source place is h = ap rank (sym (ap (λ z. z.kind) is) ∙ h)

over_kind_low : (b : Bool) → rank (cond b SlashWeak SlashFull) ≡ rank Section → ⊥
over_kind_low true h = omega (arith, h)
over_kind_low false h = omega (arith, h)

item_kind : (t : Tables) (u p : ℕ) (f : Text) (item : Item) (y : Key) → IsOfItem t u p f item y → y.kind ≡ Section → ⊥
item_kind t u p f (feature_item g) y h r = omega (arith, ranked y _ _ _ _ _ h.1.2 r)
item_kind t u p f (optional_item d) y h r = omega (arith, ranked y _ _ _ _ _ h.2 r)
item_kind t u p f (slash_item d g weak) y h r = ⊎_elim
    (λ o. over_kind_low (weak && has_declaration Optional o.1.0) (ranked y _ _ _ _ _ o.1.4.2 r))
    (λ o. ⊎_elim (λ i. omega (arith, ranked y _ _ _ _ _ i.2 r)) (λ i. omega (arith, ranked y _ _ _ _ _ i.2.2 r)) o.1)
    h

package_kind : (t : Tables) (p : ℕ) (y : Key) → IsOfPackageAt t p y → y.kind ≡ Section → ⊥
package_kind t p y h r = ⊎_elim
    (λ b. omega (arith, ranked y _ _ _ _ _ b.2.1 r))
    (λ b.
    let feature : FeatureTable = b.1.0 in
    let i = b.1.2 in
    let text : Text = i.1.0 in
    item_kind t _ p feature.name (item_of text) y i.1.2 r)
    h.2

section_key : (t : Tables) (y : Key) → IsOfTables t y → y.kind ≡ Section → IsSectionKey t y
section_key t y h r = ⊎_elim
    (λ i. absurd (package_kind t i.0 y i.1 r))
    (λ i.
    let k : ℕ = i.0 in
    let link : LinkTable = i.1.0 in
    let is_link = i.1.1 in
    let j : ℕ = i.1.2.0 in
    let d : Declared = i.1.2.1.0 in
    let at = i.1.2.1.1 in
    let u : ℕ = i.1.2.1.2.0 in
    let nu = i.1.2.1.2.1 in
    let asked : LabelName = i.1.2.1.2.2.0 in
    let req = i.1.2.1.2.2.1 in
    let w : ℕ = i.1.2.1.2.2.2.0 in
    let nw = i.1.2.1.2.2.2.1 in
    let made : IsSectionKey t (key u w Section k j) = record { link = link; is_link = is_link; declared = d; at = at; from_node = nu; asked = asked; is_requested = req; to_node = nw } in
    subst (λ z. IsSectionKey t z) (sym i.1.2.1.2.2.2.2) made)
    h

start_required : (link : LinkTable) (d : Declared) → start_of link d ≡ base → IsTrue (not d.optional)
start_required link d h = go d.optional refl h
  where
    go : (b : Bool) → d.optional ≡ b → cond b (optional link.name) base ≡ base → IsTrue (not b)
    go true e i = cc
    go false e i = refl

start_optional : (link : LinkTable) (d : Declared) (name : Text) → start_of link d ≡ optional name → IsTrue d.optional
start_optional link d name h = go d.optional refl h
  where
    go : (b : Bool) → d.optional ≡ b → cond b (optional link.name) base ≡ optional name → IsTrue b
    go true e i = refl
    go false e i = cc

of_required : (link : LinkTable) (d : Declared) → IsTrue (not d.optional) → start_of link d ≡ base
of_required link d h = go d.optional refl h
  where
    go : (b : Bool) → d.optional ≡ b → IsTrue (not b) → cond b (optional link.name) base ≡ base
    go true e i = cc
    go false e i = refl

of_optional : (link : LinkTable) (d : Declared) → IsTrue d.optional → start_of link d ≡ optional link.name
of_optional link d h = ap (λ b. cond b (optional link.name) base) h

both : (a b : Bool) → a && b ≡ true → (a ≡ true) × (b ≡ true)
both true b h = (refl, h)
both false b h = cc

joined_true : (a b : Bool) → a ≡ true → b ≡ true → a && b ≡ true
joined_true true b h i = i
joined_true false b h i = cc

-- a key with this pair, kind and source
abbrev IsOfPair : Key → Key → Type 0
IsOfPair x y = (y.from ≡ x.from) × (y.to ≡ x.to) × (y.kind ≡ Section) × (y.source ≡ x.source)

later_place : (x a b : Key) → IsOfPair x a → IsOfPair x b → IsNoLater a b → a.place ≤ b.place
later_place x a b (f, g, h, i) (p, q, r, o) (inl (inl e)) = absurd (omega (arith, e, f, p))
later_place x a b (f, g, h, i) (p, q, r, o) (inl (inr e)) = absurd (omega (arith, e.1, g, q))
later_place x a b (f, g, h, i) (p, q, r, o) (inr (e, inl k)) = absurd (omega (arith, k, ap rank h, ap rank r))
later_place x a b (f, g, h, i) (p, q, r, o) (inr (e, inr (k, inl n))) = absurd (omega (arith, n, i, o))
later_place x a b (f, g, h, i) (p, q, r, o) (inr (e, inr (k, inr n))) = n.1

-- `run` has exactly the keys of the tables for the pair of `x`, in order, and all are keys of declarations
pub record AreRequests (t : Tables) (x : Key) (run : List Key) : Type 0 where
  pub ordered : AllPairs IsNoLater run
  pub exact : (y : Key) → Contains run y ↔ (IsOfTables t y × (y.kind ≡ Section) × (y.from ≡ x.from) × (y.to ≡ x.to))

-- if the first key of a pair is a declaration's, all keys of the pair are
pub run_requests : (t : Tables) (run : List Key) (x : Key) → x.kind ≡ Section → IsRun t x run → AreRequests t x run
run_requests t run x last is = record {
  ordered = is.ordered;
  exact = λ y. (
    (λ h.
        let i = (is.exact y).0 h in
        let low : rank Section ≤ rank y.kind = subst (λ k. rank k ≤ rank y.kind) last (run_least run x y is.first is.ordered h i.1) in
        (i.0, last_kind y.kind low, sym i.1.0, sym i.1.1)),
    (λ h. (is.exact y).1 (h.0, (sym h.2, sym h.3))),
  );
}

module _ (t : Tables) (tables : AreTables t) (x : Key) (l : LinkFacts) (s : SaysSection t x l) where
  from_home : (z : LabelName) (p : ℕ) → NodeAt t x.from p z → p ≡ s.link.from
  from_home z p n = ⊎_elim
      (λ o. same_home t x.from p s.link.from z base n o.1)
      (λ o. same_home t x.from p s.link.from z (optional s.link.name) n o.1)
      s.start

  covers : (d : Declared) → NodeAt t x.from s.link.from (start_of s.link d) → IsTrue (includes s.which d)
  covers d n = ⊎_elim
      (λ o. subst (λ z. IsTrue (includes z d)) (sym o.0) (start_required s.link d (same_label t x.from s.link.from s.link.from (start_of s.link d) base n o.1)))
      (λ o. subst (λ z. IsTrue (includes z d)) (sym o.0) (start_optional s.link d s.link.name (same_label t x.from s.link.from s.link.from (start_of s.link d) (optional s.link.name) n o.1)))
      s.start

  starts : (d : Declared) → IsTrue (includes s.which d) → NodeAt t x.from s.link.from (start_of s.link d)
  starts d i = ⊎_elim
      (λ o. subst (λ z. NodeAt t x.from s.link.from z) (sym (of_required s.link d (subst (λ z. IsTrue (includes z d)) o.0 i))) o.1)
      (λ o. subst (λ z. NodeAt t x.from s.link.from z) (sym (of_optional s.link d (subst (λ z. IsTrue (includes z d)) o.0 i))) o.1)
      s.start

  -- another key of the pair has the same package link
  pub record IsOfLink (y : Key) : Type 0 where
    pub source : y.source ≡ x.source
    pub declared : Declared
    pub at : slice_get s.link.declarations y.place ≡ Some declared
    pub passes : IsTrue (requesting s.asked s.which declared)

  pub of_link : (y : Key) → IsOfTables t y → y.kind ≡ Section → y.from ≡ x.from → y.to ≡ x.to → IsOfLink y
  of_link y h r from to =
      let k = section_key t y h r in
      let start : NodeAt t x.from k.link.from (start_of k.link k.declared) = subst (λ z. NodeAt t z k.link.from (start_of k.link k.declared)) from k.from_node in
      let end : NodeAt t x.to k.link.to k.asked = subst (λ z. NodeAt t z k.link.to k.asked) to k.to_node in
      let left : k.link.from ≡ s.link.from = from_home (start_of k.link k.declared) k.link.from start in
      let right : k.link.to ≡ s.link.to = same_home t x.to k.link.to s.link.to k.asked s.asked end s.to_node in
      let one : (y.source ≡ x.source) × (k.link ≡ s.link) = same_link t tables y.source x.source k.link s.link k.is_link s.is_link left right in
      let asked : k.asked ≡ s.asked = same_label t x.to k.link.to s.link.to k.asked s.asked end s.to_node in
      let there : NodeAt t x.from s.link.from (start_of s.link k.declared) = subst (λ z. NodeAt t x.from z.from (start_of z k.declared)) one.1 start in
      record {
        source = one.0;
        declared = k.declared;
        at = subst (λ z. slice_get z.declarations y.place ≡ Some k.declared) one.1 k.at;
        passes = joined_true (includes s.which k.declared) (requests k.declared s.asked) (covers k.declared there) (subst (λ z. IsTrue (requests k.declared z)) asked k.is_requested);
      }

  -- the key of a declaration that requests the label
  by_declaration : (j : ℕ) (d : Declared) → slice_get s.link.declarations j ≡ Some d → IsTrue (requesting s.asked s.which d) → IsOfTables t (key x.from x.to Section x.source j)
  by_declaration j d at passes =
      let p = both (includes s.which d) (requests d s.asked) passes in
      inr (x.source, (s.link, s.is_link, (j, (d, at, (x.from, starts d p.0, (s.asked, p.1, (x.to, s.to_node, refl)))))))

  -- the declaration of the link at this place requests the label
  abbrev pub RequestsAt : ℕ → Type 0
  RequestsAt j = (d : Declared) × (slice_get s.link.declarations j ≡ Some d) × IsTrue (requesting s.asked s.which d)

  module _ (run : List Key) (all : AreRequests t x run) where
    run_key : (y : Key) → Contains run y → IsOfLink y
    run_key y h =
        let i = (all.exact y).0 h in
        of_link y i.0 i.1 i.2 i.3

    -- the places of the run
    abbrev pub places : List ℕ
    places = map (λ y. y.place) run

    pub place_there : (j : ℕ) → Contains places j → RequestsAt j
    place_there j h =
        let y = from_map (λ y. y.place) run j h in
        let o = run_key y.0 y.1 in
        (o.declared, subst (λ z. slice_get s.link.declarations z ≡ Some o.declared) y.2 o.at, o.passes)

    pub place_back : (j : ℕ) → RequestsAt j → Contains places j
    place_back j h =
        let y = key x.from x.to Section x.source j in
        let at : Contains run y = (all.exact y).1 (by_declaration j h.0 h.1 h.2, refl, refl, refl) in
        into_map (λ y. y.place) run y at

    of_pair : (y : Key) → Contains run y → IsOfPair x y
    of_pair y h =
        let i = (all.exact y).0 h in
        (i.2, i.3, i.1, (run_key y h).source)

    pub ascends : AllPairs (λ a b. a ≤ b) places
    ascends i j d l m =
        let long : length places ≡ length run = length-map run (λ y. y.place) in
        let i_in : i < length run = omega (arith, l, m, long) in
        let j_in : j < length run = omega (arith, m, long) in
        let a = get_or run i x in
        let b = get_or run j x in
        let a_is : get_or places i d ≡ a.place = get_or-map (λ y. y.place) run i x d i_in in
        let b_is : get_or places j d ≡ b.place = get_or-map (λ y. y.place) run j x d j_in in
        let a_in : Contains run a = Contains-get_or run i x i_in in
        let b_in : Contains run b = Contains-get_or run j x j_in in
        let up : a.place ≤ b.place = later_place x a b (of_pair a a_in) (of_pair b b_in) (all.ordered i j x l j_in) in
        omega (arith, a_is, b_is, up)

nat_apart : (x k : ℕ) → eqb x k ≡ false → k ≤ x → k < x
nat_apart x k h l = grind (arith, nat_tests)

all_above : (k x : ℕ) (xs : List ℕ) → eqb x k ≡ false → AllPairs (λ a b. a ≤ b) (k ∷ x ∷ xs) → All (λ y. k < y) (x ∷ xs)
all_above k x xs h o =
    let first : k ≤ x = All-head (λ y. k ≤ y) x xs (AllPairs-first (λ a b. a ≤ b) k (x ∷ xs) o) in
    let one : k < x = nat_apart x k h first in
    All-cons (λ y. k < y) x xs one (All-weaker (λ y. x ≤ y) (λ y. k < y) (λ y u. omega (arith, one, u)) xs (AllPairs-first (λ a b. a ≤ b) x xs (AllPairs-later (λ a b. a ≤ b) k (x ∷ xs) o)))

skip_second : (k x : ℕ) (xs : List ℕ) → AllPairs (λ a b. a ≤ b) (k ∷ x ∷ xs) → AllPairs (λ a b. a ≤ b) (k ∷ xs)
skip_second k x xs o = AllPairs-cons (λ a b. a ≤ b) k xs (All-tail (λ y. k ≤ y) x xs (AllPairs-first (λ a b. a ≤ b) k (x ∷ xs) o)) (AllPairs-later (λ a b. a ≤ b) x xs (AllPairs-later (λ a b. a ≤ b) k (x ∷ xs) o))

rises_from : (k : ℕ) (xs : List ℕ) → AllPairs (λ a b. a ≤ b) (k ∷ xs) → AllPairs (λ a b. a < b) (dedup_from eqb k xs)
rises_from k [] o = λ i j d l m. absurd (omega arith)
rises_from k (x ∷ xs) o = cond_has (eqb x k) (AllPairs (λ a b. a < b)) _ _
    (λ h. rises_from k xs (skip_second k x xs o))
    (λ h. AllPairs-cons (λ a b. a < b) k _ (All-dedup eqb (λ y. k < y) (x ∷ xs) (all_above k x xs h o)) (rises_from x xs (AllPairs-later (λ a b. a ≤ b) k (x ∷ xs) o)))

-- non-decreasing numbers without repeats ascend
pub rises : (xs : List ℕ) → AllPairs (λ a b. a ≤ b) xs → AllPairs (λ a b. a < b) (dedup eqb xs)
rises [] o = λ i j d l m. absurd (omega arith)
rises (x ∷ xs) o = rises_from x xs o

-- the places of the keys of a pair are those of the declarations that request it
pub places_passing : (t : Tables) (tables : AreTables t) (x : Key) (l : LinkFacts) (s : SaysSection t x l) (run : List Key) → AreRequests t x run
    → ArePassing (requesting s.asked s.which) s.link.declarations (dedup eqb (map (λ y. y.place) run))
places_passing t tables x l s run all = record {
  ascend = rises (map (λ y. y.place) run) (ascends t tables x l s run all);
  exact = λ j. (
    (λ h. place_there t tables x l s run all j (Contains-from_dedup eqb (map (λ y. y.place) run) j h)),
    (λ h. Contains-dedup_nat (map (λ y. y.place) run) j (place_back t tables x l s run all j h)),
  );
}

-- the declarations of the link that lead from the source node
pub half_is : (t : Tables) (x : Key) (l : LinkFacts) (s : SaysSection t x l) (which : LinkDeclarations)
    → ((p : ℕ) → NodeAt t x.from p base → which ≡ Required) → ((p : ℕ) (d : Text) → NodeAt t x.from p (optional d) → which ≡ Optional) → which ≡ s.which
half_is t x l s which r o = ⊎_elim (λ h. r s.link.from h.1 ∙ sym h.0) (λ h. o s.link.from s.link.name h.1 ∙ sym h.0) s.start

-- the start of the link's declarations is a node
pub start_within : (t : Tables) (packages : List ℕ) (x : Key) (l : LinkFacts) (s : SaysSection t x l) → packages ≡ node_packages t → x.from < length packages
start_within t packages x l s e = ⊎_elim (λ h. node_within t packages x.from s.link.from base e h.1) (λ h. node_within t packages x.from s.link.from (optional s.link.name) e h.1) s.start
