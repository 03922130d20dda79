-- The keys that the declarations of a link add.
use Rattle.std.proofs.Common.{◌≡◌, ℕ, ◌<◌, ◌⊎◌, inl, inr, ⊎_elim, List, length, map, get_or, Bool, true, false, cond, refl, ap, sym, ◌∙◌, subst, Option, Some}
use Rattle.std.specs.Prelude.{slice_get, IsTrue, ◌||◌, ◌&&◌, ◌↔◌, codes}
use Rattle.std.specs.Str.{bytes_eq}
use Rattle.std.specs.List.{list_any}
use Rattle.std.specs.Option.{option_map}
use Rattle.std.specs.Cmp.Lexicographic.{bytes_decides}
use Rattle.std.proofs.lemmas.List.{length-map}
use Rattle.std.proofs.lemmas.Option.{slice_get-map, slice_get_read, slice_get_within}
use Rattle.guppy_packages.specs.Rows.{Text, Declared}
use Rattle.guppy_packages.specs.Tables.{LinkTable, Tables}
use Rattle.feature_labels.specs.Names.{LabelName}
use Rattle.feature_labels.specs.Names.LabelName.{base, named, optional}
use Rattle.feature_edges.specs.declared.candidate.CandidateKind.{CandidateKind}
use Rattle.feature_edges.specs.declared.candidate.CandidateKind.TheVariants.{Section}
use Rattle.feature_edges.specs.inner.Adds.{Adds, Below}
use Rattle.feature_edges.specs.Nodes.{NodeAt, first_node}
use Rattle.feature_links.specs.Links.{IsLink}
use Rattle.feature_edges.specs.Candidates.{requests}
use Rattle.feature_edges.specs.declared.candidate.Key.{Key}
use Rattle.feature_edges.specs.inner.Parts.{key, IsTo, start_of, IsRequest, IsOfDeclarationAt, IsOfLinkAt}
use Rattle.feature_edges.proofs.Places.{got_same}
use Rattle.feature_edges.proofs.PartLemmas.{base_back, list_any_there, list_any_back}
use Rattle.feature_edges.proofs.AddsLemmas.{Adds-nothing, Adds-then, Adds-as}

-- a key from `u` to a node that was looked up
abbrev pub IsToFound : ℕ → Option ℕ → CandidateKind → ℕ → ℕ → Key → Type 0
IsToFound u to kind source place x = (w : ℕ) × (to ≡ Some w) × (x ≡ key u w kind source place)

-- `to` is the node of this label of package `p`, if it is one
abbrev pub IsFound : Tables → ℕ → LabelName → Option ℕ → Type 0
IsFound t p label to = (n : ℕ) → (to ≡ Some n) ↔ NodeAt t n p label

pub found_adds : (t : Tables) (u p : ℕ) (label : LabelName) (kind : CandidateKind) (source place : ℕ) (to : Option ℕ) (a b : List Key) → IsFound t p label to → Adds (IsToFound u to kind source place) a b → Adds (IsTo t u p label kind source place) a b
found_adds t u p label kind source place to a b found h =
    Adds-as (IsToFound u to kind source place) (IsTo t u p label kind source place) a b (λ x i. (i.0, (found i.0).0 i.1, i.2)) (λ x i. (i.0, (found i.0).1 i.1, i.2)) h

pub base_found : (t : Tables) (p first : ℕ) → first ≡ first_node t p → NodeAt t first p base → IsFound t p base (Some first)
base_found t p first is node n = (λ e. subst (λ z. NodeAt t z p base) (got_same first n e) node, λ h. ap Some (is ∙ sym (base_back t n p h)))

-- the element at a place of a mapped list
pub mapped_at : {X Y : Type 0} (f : X → Y) (xs : List X) (ys : List Y) (i : ℕ) (x : X) → map f xs ≡ ys → i < length xs → x ≡ get_or xs i x → slice_get ys i ≡ Some (f x)
mapped_at f xs ys i x e l h =
    subst (λ z. slice_get z i ≡ Some (f x)) e (slice_get-map f xs i ∙ ap (option_map f) (slice_get_read xs (length xs) i x refl l h))

pub mapped_length : {X Y : Type 0} (f : X → Y) (xs : List X) (ys : List Y) → map f xs ≡ ys → length xs ≡ length ys
mapped_length f xs ys e = sym (length-map xs f) ∙ ap length e

-- a key to the default feature, if `d` requests it
abbrev pub IsByDefault : Tables → ℕ → ℕ → ℕ → ℕ → Declared → Key → Type 0
IsByDefault t u p k j d x = IsTrue d.default_features × IsTo t u p (named (codes "default")) Section k j x

-- a key to feature `i` of those that `d` lists
abbrev pub IsListed : Tables → ℕ → ℕ → ℕ → ℕ → Declared → ℕ → Key → Type 0
IsListed t u p k j d i x = (g : Text) × (slice_get d.features i ≡ Some g) × IsTo t u p (named g) Section k j x

pub with_default : (t : Tables) (u p k j : ℕ) (d : Declared) (to : Option ℕ) (a b : List Key) → d.default_features ≡ true → IsFound t p (named (codes "default")) to → Adds (IsToFound u to Section k j) a b → Adds (IsByDefault t u p k j d) a b
with_default t u p k j d to a b asks found h =
    Adds-as (IsTo t u p (named (codes "default")) Section k j) (IsByDefault t u p k j d) a b (λ x i. (asks, i)) (λ x i. i.1) (found_adds t u p (named (codes "default")) Section k j to a b found h)

not_both : (b : Bool) → b ≡ true → b ≡ false → ⊥
not_both true e f = cc
not_both false e f = cc

pub without_default : (t : Tables) (u p k j : ℕ) (d : Declared) (a : List Key) → d.default_features ≡ false → Adds (IsByDefault t u p k j d) a a
without_default t u p k j d a unasked = Adds-nothing (IsByDefault t u p k j d) a (λ x h. not_both d.default_features h.0 unasked)

-- the key to a feature that d lists
pub listed : (t : Tables) (u p k j : ℕ) (d : Declared) (i : ℕ) (g : Text) (to : Option ℕ) (a b : List Key) → slice_get d.features i ≡ Some g → IsFound t p (named g) to → Adds (IsToFound u to Section k j) a b → Adds (IsListed t u p k j d i) a b
listed t u p k j d i g to a b at found h =
    Adds-as (IsTo t u p (named g) Section k j) (IsListed t u p k j d i) a b
    (λ x h. (g, at, h))
    (λ x h. subst (λ z. IsTo t u p (named z) Section k j x) (got_same h.0 g (sym h.1 ∙ at)) h.2)
    (found_adds t u p (named g) Section k j to a b found h)

or_left : (a b : Bool) → a ≡ true → a || b ≡ true
or_left true b h = refl
or_left false b h = cc

or_right : (a b : Bool) → b ≡ true → a || b ≡ true
or_right true b h = refl
or_right false b h = h

or_cases : (a b : Bool) → a || b ≡ true → (a ≡ true) ⊎ (b ≡ true)
or_cases true b h = inl refl
or_cases false b h = inr h

and_true : (a b : Bool) → a ≡ true → b ≡ true → a && b ≡ true
and_true true b h i = i
and_true false b h i = cc

and_cases : (a b : Bool) → a && b ≡ true → (a ≡ true) × (b ≡ true)
and_cases true b h = (refl, h)
and_cases false b h = cc

-- the keys to the base, to the default feature if `d` requests it, and to the features that `d` lists
abbrev IsAsked : Tables → ℕ → ℕ → ℕ → ℕ → Declared → ℕ → Key → Type 0
IsAsked t u p k j d i x = (IsTo t u p base Section k j x ⊎ IsByDefault t u p k j d x) ⊎ Below i (IsListed t u p k j d) x

module _ (t : Tables) (u p k j : ℕ) (d : Declared) where
  asked_there : (i : ℕ) (x : Key) → IsAsked t u p k j d i x → IsRequest t u p k j d x
  asked_there i x h = ⊎_elim
      (λ e. ⊎_elim
      (λ b. (base, refl, b))
      (λ f. (named (codes "default"), or_right (list_any (λ z. bytes_eq (codes "default") z) d.features) (d.default_features && bytes_eq (codes "default") (codes "default")) (and_true d.default_features (bytes_eq (codes "default") (codes "default")) f.0 ((bytes_decides (codes "default") (codes "default")).1 refl)), f.1))
      e)
      (λ e. let g = e.2.0 in
      (named g, or_left (list_any (λ z. bytes_eq g z) d.features) (d.default_features && bytes_eq g (codes "default")) (list_any_there (λ z. bytes_eq g z) d.features e.0 g e.2.1 ((bytes_decides g g).1 refl)), e.2.2))
      h

  asked_back : (i : ℕ) (x : Key) → length d.features ≡ i → IsRequest t u p k j d x → IsAsked t u p k j d i x
  asked_back i x long h = go h.0 h.1 h.2
    where
      go : (asked : LabelName) → IsTrue (requests d asked) → IsTo t u p asked Section k j x → IsAsked t u p k j d i x
      go base r to = inl (inl to)
      go (optional n) r to = absurd (not_both false r refl)
      go (named g) r to = ⊎_elim
          (λ e.
          let f = list_any_back (λ z. bytes_eq g z) d.features e in
          let same : g ≡ f.element = (bytes_decides g f.element).0 f.passes in
          inr (f.place, subst (λ n. f.place < n) long (slice_get_within d.features f.place f.element f.there), (f.element, f.there, subst (λ z. IsTo t u p (named z) Section k j x) same to)))
          (λ e.
          let f = and_cases d.default_features (bytes_eq g (codes "default")) e in
          let same : g ≡ codes "default" = (bytes_decides g (codes "default")).0 f.1 in
          inl (inr (f.0, subst (λ z. IsTo t u p (named z) Section k j x) same to)))
          (or_cases (list_any (λ z. bytes_eq g z) d.features) (d.default_features && bytes_eq g (codes "default")) r)

  -- all keys that `d` requests
  pub requested : (i : ℕ) (a b c e : List Key) → length d.features ≡ i → Adds (IsTo t u p base Section k j) a b → Adds (IsByDefault t u p k j d) b c → Adds (Below i (IsListed t u p k j d)) c e → Adds (IsRequest t u p k j d) a e
  requested i a b c e long first second third =
      Adds-as (IsAsked t u p k j d i) (IsRequest t u p k j d) a e (asked_there i) (λ x h. asked_back i x long h)
      (Adds-then (λ x. IsTo t u p base Section k j x ⊎ IsByDefault t u p k j d x) (Below i (IsListed t u p k j d)) a c e
      (Adds-then (IsTo t u p base Section k j) (IsByDefault t u p k j d) a b c first second) third)

-- the node of a label, and no other
pub only_node : (t : Tables) (p : ℕ) (label : LabelName) (node : ℕ) → IsFound t p label (Some node) → (n : ℕ) → (node ≡ n) ↔ NodeAt t n p label
only_node t p label node found n = (λ e. (found n).0 (ap Some e), λ h. got_same node n ((found n).1 h))

-- a declaration that is not optional starts from the base
pub start_base : (t : Tables) (link : LinkTable) (d : Declared) (p first : ℕ) → d.optional ≡ false → p ≡ link.from → first ≡ first_node t p → NodeAt t first p base → (n : ℕ) → (first ≡ n) ↔ NodeAt t n link.from (start_of link d)
start_base t link d p first required q is node =
    subst (λ label. (n : ℕ) → (first ≡ n) ↔ NodeAt t n link.from label) (sym (ap (λ b. cond b (optional link.name) base) required))
    (subst (λ z. (n : ℕ) → (first ≡ n) ↔ NodeAt t n z base) q (only_node t p base first (base_found t p first is node)))

-- the keys of declaration `d`, which starts from `u`
abbrev IsByStart : Tables → ℕ → ℕ → LinkTable → Declared → Key → Type 0
IsByStart t k j link d x = (u : ℕ) × NodeAt t u link.from (start_of link d) × IsRequest t u link.to k j d x

pub by_start : (t : Tables) (k j : ℕ) (link : LinkTable) (d : Declared) (u : ℕ) (a b : List Key) → slice_get link.declarations j ≡ Some d → ((n : ℕ) → (u ≡ n) ↔ NodeAt t n link.from (start_of link d))
    → Adds (IsRequest t u link.to k j d) a b → Adds (IsOfDeclarationAt t k link j) a b
by_start t k j link d u a b at from h =
    Adds-as (IsRequest t u link.to k j d) (IsOfDeclarationAt t k link j) a b
    (λ x i. (d, at, (u, (from u).0 refl, i)))
    (λ x i.
    let s = subst (λ z. IsByStart t k j link z x) (got_same i.0 d (sym i.1 ∙ at)) i.2 in
    subst (λ v. IsRequest t v link.to k j d x) (sym ((from s.0).1 s.1)) s.2)
    h

-- all declarations of link k
pub of_link : (t : Tables) (k n : ℕ) (link : LinkTable) (a b : List Key) → IsLink t k link → n ≡ length link.declarations → Adds (Below n (IsOfDeclarationAt t k link)) a b → Adds (IsOfLinkAt t k) a b
of_link t k n link a b is long h =
    Adds-as (Below n (IsOfDeclarationAt t k link)) (IsOfLinkAt t k) a b
    (λ x i. (link, is, (i.0, i.2)))
    (λ x i.
    let s = subst (λ z. (j : ℕ) × IsOfDeclarationAt t k z j x) (got_same i.0 link (sym i.1 ∙ is)) i.2 in
    (s.0, subst (λ m. s.0 < m) (sym long) (slice_get_within link.declarations s.0 s.1.0 s.1.1), s.1))
    h
