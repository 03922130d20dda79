-- The keys that the builder's steps add.
use Rattle.std.proofs.Common.{◌≡◌, ◌≢◌, ℕ, zero, suc, ◌+◌, ◌<◌, ◌≤◌, ◌⊎◌, inl, inr, ⊎_elim, List, ◌∷◌, [], length, map, Bool, true, false, cond, Option, Some, None, refl, ap, sym, ◌∙◌, subst, arith, not, true≢false}
use Rattle.std.specs.Prelude.{slice_get, Contains, IsPermutation, ◌↔◌, ◌&&◌, ◌==◌, filter}
use Rattle.std.specs.Str.{bytes_eq}
use Rattle.std.specs.List.{list_any}
use Rattle.std.specs.Cmp.Lexicographic.{bytes_decides}
use Rattle.std.proofs.lemmas.Bool.Decides.{nat_tests}
use Rattle.guppy_packages.specs.Rows.{Text}
use Rattle.guppy_packages.specs.Tables.{LinkTable, Tables, FeatureTable, PackageTable, AreLinksFrom}
use Rattle.guppy_packages.specs.Items.{feature_item, slash_item, item_of}
use Rattle.feature_labels.specs.Names.{LabelName}
use Rattle.feature_labels.specs.Names.LabelName.{named, optional}
use Rattle.feature_edges.specs.declared.candidate.CandidateKind.{CandidateKind}
use Rattle.feature_edges.specs.declared.candidate.CandidateKind.TheVariants.{FeatureToBase, NamedFeature, SlashOptional}
use Rattle.feature_edges.specs.inner.Adds.{Adds, Below}
use Rattle.feature_links.specs.Links.{IsLink, numbered}
use Rattle.feature_links.specs.NamedLinks.{link_numbers}
use Rattle.feature_edges.specs.Nodes.{NodeAt, first_node, labels_of}
use Rattle.feature_edges.specs.declared.candidate.Key.{Key}
use Rattle.feature_edges.specs.inner.Parts.{key, over_kind, IsToFirstFrom, IsTo, IsOver, IsOverLink, IsBeside, IsOfItem, IsOfItemAt, IsOfFeature, IsOfOptional, IsAround, IsOfPackageAt, IsOfLinkAt, IsLinkFrom}
use Rattle.feature_edges.proofs.NodeLabels.{element_within}
use Rattle.feature_edges.proofs.AddsLemmas.{Adds-nothing, Adds-then, Adds-as, Adds-permuted, place_of_element, element_at_place, place_below, Contains-first, Contains-later, Contains-cases, Contains-none}

-- a key to the node of a label, whose number is known
pub pushed_to : (t : Tables) (u p : ℕ) (kind : CandidateKind) (source place : ℕ) (label : LabelName) (to : Option ℕ) (a b : List Key) → ((n : ℕ) → (to ≡ Some n) ↔ NodeAt t n p label)
    → Adds (λ x. (w : ℕ) × (to ≡ Some w) × (x ≡ key u w kind source place)) a b → Adds (IsTo t u p label kind source place) a b
pushed_to t u p kind source place label to a b told h = Adds-as (λ x. (w : ℕ) × (to ≡ Some w) × (x ≡ key u w kind source place)) (IsTo t u p label kind source place) a b
    (λ x i. (i.0, (told i.0).0 i.1, i.2))
    (λ x i. (i.0, (told i.0).1 i.1, i.2))
    h

-- a key to the first node
pub first_pushed : (first from : ℕ) (a b : List Key) → Adds (λ x. (w : ℕ) × (◌≡◌ {A = Option ℕ} (Some first) (Some w)) × (x ≡ key from w FeatureToBase 0 0)) a b → Adds (λ x. x ≡ key from first FeatureToBase 0 0) a b
first_pushed first from a b h = Adds-as (λ x. (w : ℕ) × (◌≡◌ {A = Option ℕ} (Some first) (Some w)) × (x ≡ key from w FeatureToBase 0 0)) (λ x. x ≡ key from first FeatureToBase 0 0) a b
    (λ x i. let e : first ≡ i.0 = cc in i.2 ∙ ap (λ z. key from z FeatureToBase 0 0) (sym e))
    (λ x i. (first, refl, i))
    h

-- a key from node `k` to the first
pub first_next : (start first k : ℕ) (a b : List Key) → start ≤ k → 0 < k → Adds (λ x. x ≡ key (first + k) first FeatureToBase 0 0) a b → Adds (IsToFirstFrom start first k) a b
first_next start first k a b s l h = Adds-as (λ x. x ≡ key (first + k) first FeatureToBase 0 0) (IsToFirstFrom start first k) a b
    (λ x i. (s, (l, i)))
    (λ x i. i.1.1)
    h

pub first_none : (start first n : ℕ) (a : List Key) → n ≤ start → Adds (Below n (IsToFirstFrom start first)) a a
first_none start first n a l = Adds-nothing (Below n (IsToFirstFrom start first)) a (λ x h. omega (arith, l, h.1, h.2.0))

-- no further keys past the end
pub first_end : (start first n count : ℕ) (a b : List Key) → count ≤ n → n ≤ start ⊎ (n ≡ count) → Adds (Below n (IsToFirstFrom start first)) a b → Adds (Below count (IsToFirstFrom start first)) a b
first_end start first n count a b l e h = Adds-as (Below n (IsToFirstFrom start first)) (Below count (IsToFirstFrom start first)) a b
    (λ x i. (i.0, ⊎_elim (λ s. absurd (omega (arith, i.1, i.2.0, s))) (λ s. omega (arith, i.1, s)) e, i.2))
    (λ x i. (i.0, omega (arith, i.1, l), i.2))
    h

-- a key over link `k`, whose declarations determine the kind
pub link_pushed : (t : Tables) (u k : ℕ) (kind : CandidateKind) (g : Text) (weak : Bool) (link : LinkTable) (a b : List Key) → IsLink t k link → kind ≡ over_kind weak link
    → Adds (IsTo t u link.to (named g) kind k 0) a b → Adds (IsOverLink t u g weak k) a b
link_pushed t u k kind g weak link a b is e h = Adds-as (IsTo t u link.to (named g) kind k 0) (IsOverLink t u g weak k) a b
    (λ x i. (link, is, subst (λ z. IsTo t u link.to (named g) z k 0 x) e i))
    (λ x i.
    let same : i.0 ≡ link = same_link i.0 (sym i.1 ∙ is) in
    subst (λ z. IsTo t u link.to (named g) z k 0 x) (sym e) (subst (λ z. IsTo t u z.to (named g) (over_kind weak z) k 0 x) same i.2))
    h
  where
    same_link : (other : LinkTable) → ◌≡◌ {A = Option LinkTable} (Some other) (Some link) → other ≡ link
    same_link other e = cc

-- the keys over the link at a place of a list
abbrev pub OverAt : Tables → ℕ → Text → Bool → List ℕ → ℕ → Key → Type 0
OverAt t u g weak links i x = (k : ℕ) × (slice_get links i ≡ Some k) × IsOverLink t u g weak k x

pub over_pushed : (t : Tables) (u i k : ℕ) (g : Text) (weak : Bool) (links : List ℕ) (a b : List Key) → slice_get links i ≡ Some k → Adds (IsOverLink t u g weak k) a b → Adds (OverAt t u g weak links i) a b
over_pushed t u i k g weak links a b at h = Adds-as (IsOverLink t u g weak k) (OverAt t u g weak links i) a b
    (λ x j. (k, at, j))
    (λ x j. let e : j.0 ≡ k = same_number j.0 (sym j.1 ∙ at) in subst (λ z. IsOverLink t u g weak z x) e j.2)
    h
  where
    same_number : (other : ℕ) → ◌≡◌ {A = Option ℕ} (Some other) (Some k) → other ≡ k
    same_number other e = cc

pub over_end : (t : Tables) (u n : ℕ) (g : Text) (weak : Bool) (links : List ℕ) (a b : List Key) → length links ≤ n → Adds (Below n (OverAt t u g weak links)) a b
    → Adds (λ x. (i k : ℕ) × (slice_get links i ≡ Some k) × IsOverLink t u g weak k x) a b
over_end t u n g weak links a b l h = Adds-as (Below n (OverAt t u g weak links)) (λ x. (i k : ℕ) × (slice_get links i ≡ Some k) × IsOverLink t u g weak k x) a b
    (λ x i. (i.0, i.2.0, i.2.1, i.2.2))
    (λ x i. (i.0, omega (arith, l, place_below links i.0 i.1 i.2), (i.1, i.2, i.3)))
    h

-- the links of a package under a name have these numbers
numbered_back : (q : ℕ) (ls : List LinkTable) (k : ℕ) (link : LinkTable) → Contains (numbered q ls) (k, link) → (j : ℕ) × (k ≡ q + j) × (slice_get ls j ≡ Some link)
numbered_back q [] k link h = absurd (Contains-none (k, link) h)
numbered_back q (l ∷ ls) k link h = ⊎_elim
    (λ e. (0, omega (arith, ap (λ z. z.0) e), ap (λ z. Some z.1) e))
    (λ e. let r = numbered_back (q + 1) ls k link e in (suc r.0, omega (arith, r.1), r.2))
    (Contains-cases (q, l) (numbered (q + 1) ls) (k, link) h)

numbered_there : (q : ℕ) (ls : List LinkTable) (j : ℕ) (link : LinkTable) → slice_get ls j ≡ Some link → Contains (numbered q ls) (q + j, link)
numbered_there q [] j link h = cc
numbered_there q (l ∷ ls) zero link h =
    let e : l ≡ link = cc in
    subst (λ z. Contains (numbered q (l ∷ ls)) (q + 0, z)) e (subst (λ z. Contains (numbered q (l ∷ ls)) (z, l)) (omega arith) (Contains-first (q, l) (numbered (q + 1) ls)))
numbered_there q (l ∷ ls) (suc j) link h =
    let e : q + 1 + j ≡ q + suc j = omega arith in
    Contains-later (q, l) (numbered (q + 1) ls) (q + suc j, link) (subst (λ z. Contains (numbered (q + 1) ls) (z, link)) e (numbered_there (q + 1) ls j link h))

kept_from : {X : Type 0} (b : Bool) (x : X) (xs : List X) (y : X) → Contains (cond b (x ∷ xs) xs) y → ((x ≡ y) × (b ≡ true)) ⊎ Contains xs y
kept_from true x xs y h = ⊎_elim (λ e. inl (e, refl)) (λ e. inr e) (Contains-cases x xs y h)
kept_from false x xs y h = inr h

pub from_filter : {X : Type 0} (p : X → Bool) (xs : List X) (y : X) → Contains (filter p xs) y → Contains xs y × (p y ≡ true)
from_filter p [] y h = absurd (Contains-none y h)
from_filter p (x ∷ xs) y h = ⊎_elim
    (λ e. (subst (λ q. Contains (x ∷ xs) q) e.0 (Contains-first x xs), subst (λ q. p q ≡ true) e.0 e.1))
    (λ e. let r = from_filter p xs y e in (Contains-later x xs y r.0, r.1))
    (kept_from (p x) x (filter p xs) y h)

kept_first : {X : Type 0} (b : Bool) (x : X) (xs : List X) → b ≡ true → Contains (cond b (x ∷ xs) xs) x
kept_first true x xs h = Contains-first x xs
kept_first false x xs h = cc

kept_later : {X : Type 0} (b : Bool) (x : X) (xs : List X) (y : X) → Contains xs y → Contains (cond b (x ∷ xs) xs) y
kept_later true x xs y h = Contains-later x xs y h
kept_later false x xs y h = h

pub into_filter : {X : Type 0} (p : X → Bool) (xs : List X) (y : X) → Contains xs y → p y ≡ true → Contains (filter p xs) y
into_filter p [] y h e = absurd (Contains-none y h)
into_filter p (x ∷ xs) y h e = ⊎_elim
    (λ i. subst (λ q. Contains (filter p (x ∷ xs)) q) i (kept_first (p x) x (filter p xs) (subst (λ q. p q ≡ true) (sym i) e)))
    (λ i. kept_later (p x) x (filter p xs) y (into_filter p xs y i e))
    (Contains-cases x xs y h)

pub from_map : {X Y : Type 0} (f : X → Y) (xs : List X) (y : Y) → Contains (map f xs) y → (x : X) × (Contains xs x) × (f x ≡ y)
from_map f [] y h = absurd (Contains-none y h)
from_map f (x ∷ xs) y h = ⊎_elim (λ e. (x, Contains-first x xs, e)) (λ i. let r = from_map f xs y i in (r.0, Contains-later x xs r.0 r.1, r.2)) (Contains-cases (f x) (map f xs) y h)

pub into_map : {X Y : Type 0} (f : X → Y) (xs : List X) (x : X) → Contains xs x → Contains (map f xs) (f x)
into_map f [] x h = absurd (Contains-none x h)
into_map f (z ∷ xs) x h = ⊎_elim (λ e. subst (λ q. Contains (map f (z ∷ xs)) (f q)) e (Contains-first (f z) (map f xs))) (λ i. Contains-later (f z) (map f xs) (f x) (into_map f xs x i)) (Contains-cases z xs x h)

two : (a b : Bool) → a && b ≡ true → (a ≡ true) × (b ≡ true)
two true b h = (refl, h)
two false b h = cc

both_true : (a b : Bool) → a ≡ true → b ≡ true → a && b ≡ true
both_true true b h i = i
both_true false b h i = cc

is_number : (m n : ℕ) → (m == n) ≡ true → m ≡ n
is_number m n h = grind (arith, nat_tests)

is_same : (m n : ℕ) → m ≡ n → (m == n) ≡ true
is_same m n h = grind (arith, nat_tests)

abbrev pub IsUnder : Tables → ℕ → Text → ℕ → Type 0
IsUnder t p d k = (link : LinkTable) × IsLink t k link × (link.from ≡ p) × (link.name ≡ d)

-- a number in the list of a package and a name is the number of such a link
pub under_back : (t : Tables) (p : ℕ) (d : Text) (i k : ℕ) → slice_get (link_numbers t p d) i ≡ Some k → (link : LinkTable) × IsLink t k link × (link.from ≡ p) × (link.name ≡ d)
under_back t p d i k h =
    let test : ℕ × LinkTable → Bool = λ l. (l.1.from == p) && bytes_eq l.1.name d in
    let m = from_map (λ l. l.0) (filter test (numbered 0 t.links)) k (element_at_place (link_numbers t p d) i k h) in
    let f = from_filter test (numbered 0 t.links) m.0 m.1 in
    let b = numbered_back 0 t.links m.0.0 m.0.1 f.0 in
    let parts = two (m.0.1.from == p) (bytes_eq m.0.1.name d) f.1 in
    let same : b.0 ≡ k = omega (arith, b.1, m.2) in
    (m.0.1, subst (λ z. slice_get t.links z ≡ Some m.0.1) same b.2, is_number m.0.1.from p parts.0, (bytes_decides m.0.1.name d).0 parts.1)

pub under_there : (t : Tables) (p : ℕ) (d : Text) (k : ℕ) (link : LinkTable) → IsLink t k link → link.from ≡ p → link.name ≡ d → (i : ℕ) × (slice_get (link_numbers t p d) i ≡ Some k)
under_there t p d k link is f n =
    let test : ℕ × LinkTable → Bool = λ l. (l.1.from == p) && bytes_eq l.1.name d in
    let among : Contains (numbered 0 t.links) (k, link) = subst (λ z. Contains (numbered 0 t.links) (z, link)) (omega arith) (numbered_there 0 t.links k link is) in
    let kept = into_filter test (numbered 0 t.links) (k, link) among (both_true (link.from == p) (bytes_eq link.name d) (is_same link.from p f) ((bytes_decides link.name d).1 n)) in
    place_of_element (link_numbers t p d) k (into_map (λ l. l.0) (filter test (numbered 0 t.links)) (k, link) kept)

-- the keys over the links in the list of a package and a name
pub over_named : (t : Tables) (u p : ℕ) (d g : Text) (weak : Bool) (links : List ℕ) (a b : List Key) → links ≡ link_numbers t p d
    → Adds (λ x. (i k : ℕ) × (slice_get links i ≡ Some k) × IsOverLink t u g weak k x) a b → Adds (λ x. (k : ℕ) × IsOver t u p d g weak k x) a b
over_named t u p d g weak links a b e h = Adds-as (λ x. (i k : ℕ) × (slice_get links i ≡ Some k) × IsOverLink t u g weak k x) (λ x. (k : ℕ) × IsOver t u p d g weak k x) a b
    (λ x j.
    let n = under_back t p d j.0 j.1 (subst (λ z. slice_get z j.0 ≡ Some j.1) e j.2) in
    let same : n.0 ≡ j.3.0 = same_link n.0 j.3.0 (sym n.1 ∙ j.3.1) in
    (j.1, (n.0, n.1, n.2, n.3, subst (λ z. IsTo t u z.to (named g) (over_kind weak z) j.1 0 x) (sym same) j.3.2)))
    (λ x j.
    let o = j.1 in
    let i = under_there t p d j.0 o.0 o.1 o.2 o.3 in
    (i.0, j.0, subst (λ z. slice_get z i.0 ≡ Some j.0) (sym e) i.1, (o.0, o.1, o.4)))
    h
  where
    same_link : (m n : LinkTable) → ◌≡◌ {A = Option LinkTable} (Some m) (Some n) → m ≡ n
    same_link m n e = cc

-- an element of such a list is a link's number
pub under_within : (t : Tables) (p : ℕ) (d : Text) (links : List ℕ) → links ≡ link_numbers t p d → (i k : ℕ) → slice_get links i ≡ Some k → k < length t.links
under_within t p d links e i k h = let n = under_back t p d i k (subst (λ z. slice_get z i ≡ Some k) e h) in place_below t.links k n.0 n.1

pub list_any-map : {X Y : Type 0} (f : X → Y) (p : Y → Bool) (xs : List X) → list_any p (map f xs) ≡ list_any (λ x. p (f x)) xs
list_any-map f p [] = refl
list_any-map f p (x ∷ xs) = rw (list_any-map f p xs)

-- no key beside, if the package has no such optional dependency
pub none_beside : (t : Tables) (u p : ℕ) (f d : Text) (a : List Key) → ((n : ℕ) → (◌≡◌ {A = Option ℕ} None (Some n)) ↔ NodeAt t n p (optional d)) → Adds (IsBeside t u p f d) a a
none_beside t u p f d a told = Adds-nothing (IsBeside t u p f d) a (λ x h. ⊎_elim (λ i. gone i.0 ((told i.0).1 i.1)) (λ i. gone i.1.0 ((told i.1.0).1 i.1.1)) h)
  where
    gone : (n : ℕ) → ◌≡◌ {A = Option ℕ} None (Some n) → ⊥
    gone n e = cc

-- the keys beside, if the name is the feature's
pub one_beside : (t : Tables) (u p : ℕ) (f d : Text) (a b : List Key) → d ≡ f → Adds (IsTo t u p (optional d) SlashOptional 0 0) a b → Adds (IsBeside t u p f d) a b
one_beside t u p f d a b same h = Adds-as (IsTo t u p (optional d) SlashOptional 0 0) (IsBeside t u p f d) a b
    (λ x i. inl i)
    (λ x i. ⊎_elim (λ j. j) (λ j. absurd (j.0 same)) i)
    h

-- the keys beside, if the name is another one
pub two_beside : (t : Tables) (u n p : ℕ) (f d : Text) (a b c : List Key) → d ≢ f → NodeAt t n p (optional d) → Adds (IsTo t u p (optional d) SlashOptional 0 0) a b → Adds (IsTo t u p (named d) SlashOptional 0 0) b c → Adds (IsBeside t u p f d) a c
two_beside t u n p f d a b c differ at g h = Adds-as (λ x. IsTo t u p (optional d) SlashOptional 0 0 x ⊎ IsTo t u p (named d) SlashOptional 0 0 x) (IsBeside t u p f d) a c
    (λ x i. ⊎_elim (λ j. inl j) (λ j. inr (differ, (n, at), j)) i)
    (λ x i. ⊎_elim (λ j. inl j) (λ j. inr j.2) i)
    (Adds-then (IsTo t u p (optional d) SlashOptional 0 0) (IsTo t u p (named d) SlashOptional 0 0) a b c g h)

-- unequal texts, and equal ones
pub texts_differ : (c d : Text) → true ≡ not (bytes_eq c d) → c ≢ d
texts_differ c d h e = go (bytes_eq c d) h ((bytes_decides c d).1 e)
  where
    go : (b : Bool) → true ≡ not b → b ≡ true → ⊥
    go true h i = cc
    go false h i = cc

pub texts_alike : (c d : Text) → false ≡ not (bytes_eq c d) → c ≡ d
texts_alike c d h = (bytes_decides c d).0 (go (bytes_eq c d) h)
  where
    go : (b : Bool) → false ≡ not b → b ≡ true
    go true h = refl
    go false h = cc

-- equal texts and unequal ones, by the test
pub texts_equal : (c d : Text) → true ≡ bytes_eq c d → c ≡ d
texts_equal c d h = (bytes_decides c d).0 (sym h)

pub texts_apart : (c d : Text) → false ≡ bytes_eq c d → c ≢ d
texts_apart c d h e = true≢false (sym ((bytes_decides c d).1 e) ∙ sym h)

-- an item that names a feature: the feature itself adds nothing
pub same_feature : (t : Tables) (u p : ℕ) (f g : Text) (a : List Key) → g ≡ f → Adds (IsOfItem t u p f (feature_item g)) a a
same_feature t u p f g a same = Adds-nothing (IsOfItem t u p f (feature_item g)) a (λ x h. h.0 same)

pub other_feature : (t : Tables) (u p : ℕ) (f g : Text) (a b : List Key) → g ≢ f → Adds (IsTo t u p (named g) NamedFeature 0 0) a b → Adds (IsOfItem t u p f (feature_item g)) a b
other_feature t u p f g a b differ h = Adds-as (IsTo t u p (named g) NamedFeature 0 0) (IsOfItem t u p f (feature_item g)) a b (λ x i. (differ, i)) (λ x i. i.1) h

-- an item with a slash, weak or strong
pub weak_item : (t : Tables) (u p : ℕ) (f d g : Text) (weak : Bool) (a b : List Key) → weak ≡ true → Adds (λ x. (k : ℕ) × IsOver t u p d g weak k x) a b → Adds (IsOfItem t u p f (slash_item d g weak)) a b
weak_item t u p f d g weak a b e h = Adds-as (λ x. (k : ℕ) × IsOver t u p d g weak k x) (IsOfItem t u p f (slash_item d g weak)) a b
    (λ x i. inl i)
    (λ x i. ⊎_elim (λ j. j) (λ j. apart (sym e ∙ j.0)) i)
    h
  where
    apart : {X : Type 0} → true ≡ false → X
    apart q = absurd (true≢false q)

pub strong_item : (t : Tables) (u p : ℕ) (f d g : Text) (weak : Bool) (a b c : List Key) → weak ≡ false → Adds (λ x. (k : ℕ) × IsOver t u p d g weak k x) a b → Adds (IsBeside t u p f d) b c → Adds (IsOfItem t u p f (slash_item d g weak)) a c
strong_item t u p f d g weak a b c e h i = Adds-as (λ x. ((k : ℕ) × IsOver t u p d g weak k x) ⊎ IsBeside t u p f d x) (IsOfItem t u p f (slash_item d g weak)) a c
    (λ x j. ⊎_elim (λ z. inl z) (λ z. inr (e, z)) j)
    (λ x j. ⊎_elim (λ z. inl z) (λ z. inr z.1) j)
    (Adds-then (λ x. (k : ℕ) × IsOver t u p d g weak k x) (IsBeside t u p f d) a b c h i)

-- the elements for some place below `n` are the elements for some place
pub Adds-all : {X : Type 0} (P : ℕ → X → Type 0) (n : ℕ) (a b : List X) → ((k : ℕ) (x : X) → P k x → k < n) → Adds (Below n P) a b → Adds (λ x. (k : ℕ) × P k x) a b
Adds-all P n a b within h = Adds-as (Below n P) (λ x. (k : ℕ) × P k x) a b
    (λ x i. (i.0, i.2))
    (λ x i. (i.0, within i.0 x i.1, i.1))
    h

-- the keys of the item at a place
pub item_at : (t : Tables) (u p k : ℕ) (feature : FeatureTable) (text name : Text) (a b : List Key) → slice_get feature.items k ≡ Some text → name ≡ feature.name → Adds (IsOfItem t u p name (item_of text)) a b → Adds (IsOfItemAt t u p feature k) a b
item_at t u p k feature text name a b at e h = Adds-as (IsOfItem t u p name (item_of text)) (IsOfItemAt t u p feature k) a b
    (λ x i. (text, at, subst (λ z. IsOfItem t u p z (item_of text) x) e i))
    (λ x i.
    let same : i.0 ≡ text = same_text i.0 (sym i.1 ∙ at) in
    subst (λ z. IsOfItem t u p name (item_of z) x) same (subst (λ z. IsOfItem t u p z (item_of i.0) x) (sym e) i.2))
    h
  where
    same_text : (other : Text) → ◌≡◌ {A = Option Text} (Some other) (Some text) → other ≡ text
    same_text other q = cc

pub items_within : (t : Tables) (u p : ℕ) (feature : FeatureTable) (k : ℕ) (x : Key) → IsOfItemAt t u p feature k x → k < length feature.items
items_within t u p feature k x h = place_below feature.items k h.0 h.1

-- the keys of a feature: to the base, then of its items
pub of_feature : (t : Tables) (u p first : ℕ) (feature : FeatureTable) (a b c : List Key) → first ≡ first_node t p → Adds (λ x. x ≡ key u first FeatureToBase 0 0) a b → Adds (λ x. (j : ℕ) × IsOfItemAt t u p feature j x) b c → Adds (IsOfFeature t u p feature) a c
of_feature t u p first feature a b c e h i = Adds-then (λ x. x ≡ key u (first_node t p) FeatureToBase 0 0) (λ x. (j : ℕ) × IsOfItemAt t u p feature j x) a b c (subst (λ z. Adds (λ x. x ≡ key u z FeatureToBase 0 0) a b) e h) i

-- the keys of the optional dependencies of a package to its base
pub of_optional : (t : Tables) (p start first count : ℕ) (table : PackageTable) (a b : List Key) → start ≡ 1 + length table.features → first ≡ first_node t p → count ≡ length (labels_of table) → Adds (Below count (IsToFirstFrom start first)) a b → Adds (IsOfOptional t p table) a b
of_optional t p start first count table a b s e n h = subst (λ z. Adds (Below (length (labels_of table)) (IsToFirstFrom z (first_node t p))) a b) s (subst (λ z. Adds (Below (length (labels_of table)) (IsToFirstFrom start z)) a b) e (subst (λ z. Adds (Below z (IsToFirstFrom start first)) a b) n h))

pub packages_within : (t : Tables) (p : ℕ) (x : Key) → IsOfPackageAt t p x → p < length t.packages
packages_within t p x h = place_below t.packages p h.0 h.1

-- the keys of link `k`, which leaves package `p`
abbrev pub IsOfLinkFrom : Tables → ℕ → ℕ → Key → Type 0
IsOfLinkFrom t p k x = IsLinkFrom t p k × IsOfLinkAt t k x

module _ (t : Tables) (p first end : ℕ) (are : AreLinksFrom t.links p first end) where
  leaves_within : (k : ℕ) → IsLinkFrom t p k → (first ≤ k) × (k < end)
  leaves_within k h = (are.exactly k h.0 h.1).0 h.2

  pub leaving_start : (a : List Key) → Adds (Below first (IsOfLinkFrom t p)) a a
  leaving_start a = Adds-nothing (Below first (IsOfLinkFrom t p)) a (λ x h. let l = leaves_within h.0 h.2.0 in omega (arith, h.1, l.0))

  pub leaving_next : (k : ℕ) (a b : List Key) → first ≤ k → k < end → Adds (IsOfLinkAt t k) a b → Adds (IsOfLinkFrom t p k) a b
  leaving_next k a b low high h =
      let link = element_within t.links k (omega (arith, high, are.within)) in
      Adds-as (IsOfLinkAt t k) (IsOfLinkFrom t p k) a b
      (λ x i. ((link.0, link.1, (are.exactly k link.0 link.1).1 (low, high)), i))
      (λ x i. i.1)
      h

  pub leaving_end : (n : ℕ) (a b : List Key) → end ≤ n → Adds (Below n (IsOfLinkFrom t p)) a b → Adds (λ x. (k : ℕ) × IsLinkFrom t p k × IsOfLinkAt t k x) a b
  leaving_end n a b l h = Adds-as (λ x. (k : ℕ) × IsOfLinkFrom t p k x) (λ x. (k : ℕ) × IsLinkFrom t p k × IsOfLinkAt t k x) a b
      (λ x i. (i.0, i.1.0, i.1.1))
      (λ x i. (i.0, (i.1, i.2)))
      (Adds-all (IsOfLinkFrom t p) n a b (λ k x i. let w = leaves_within k i.0 in omega (arith, w.1, l)) h)

-- the keys of the links that leave a package and of its optional dependencies, in any order
pub around : (t : Tables) (p : ℕ) (table : PackageTable) (a b c d : List Key) → a ≡ [] → Adds (λ x. (k : ℕ) × IsLinkFrom t p k × IsOfLinkAt t k x) a b → Adds (IsOfOptional t p table) b c → IsPermutation c d → Adds (IsAround t p table) [] d
around t p table a b c d e f g moved = subst (λ z. Adds (IsAround t p table) z d) e (Adds-permuted (IsAround t p table) a c d (Adds-then (λ x. (k : ℕ) × IsLinkFrom t p k × IsOfLinkAt t k x) (IsOfOptional t p table) a b c f g) moved)
