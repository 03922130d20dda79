-- Candidates of one pair and one rank are equal.
use Rattle.std.proofs.Common.{◌≡◌, ℕ, ◌≤◌, ◌⊎◌, inl, inr, List, ◌∷◌, [], map, Some, refl, ap, sym, ◌∙◌, subst, arith}
use Rattle.std.specs.Prelude.{slice_get}
use Rattle.std.specs.Option.{option_map}
use Rattle.std.proofs.lemmas.Option.{slice_get-map}
use Rattle.guppy_packages.specs.Rows.{Text}
use Rattle.guppy_packages.specs.Tables.{LinkTable, Tables, AreTables, pair_of}
use Rattle.feature_labels.specs.Names.{LabelName}
use Rattle.feature_labels.specs.Names.LabelName.{base, named, optional}
use Rattle.feature_labels.specs.declared.link_declarations.LinkDeclarations.{LinkDeclarations}
use Rattle.feature_labels.specs.declared.link_declarations.LinkDeclarations.TheVariants.{Unsplit, Required, Optional}
use Rattle.feature_edges.specs.Nodes.{NodeAt}
use Rattle.feature_links.specs.Links.{LinkFacts, IsLink, over, by_name}
use Rattle.feature_edges.specs.Candidates.{Edge, feature_to_base, named_feature, dep_colon, slash_full, slash_optional, slash_weak, section, rank_of, unsplit_of, IsSection, requesting, Candidate, to_base, to_feature, to_dependency, over_strong, over_weak, with_dependency, with_feature, of_required, of_optional, IsEdge}

same_got : {X : Type 0} (xs : List X) (n : ℕ) (a b : X) → slice_get xs n ≡ Some a → slice_get xs n ≡ Some b → a ≡ b
same_got xs n a b p q = cc

record Colon (t : Tables) (u w : ℕ) (l : LinkFacts) : Type 0 where
  p : ℕ
  f : Text
  d : Text
  at_u : NodeAt t u p (named f)
  at_w : NodeAt t w p (optional d)
  is : l ≡ by_name t p Unsplit d

record Full (t : Tables) (u w : ℕ) (l : LinkFacts) : Type 0 where
  k : ℕ
  link : LinkTable
  is_link : IsLink t k link
  f : Text
  g : Text
  at_u : NodeAt t u link.from (named f)
  at_w : NodeAt t w link.to (named g)
  is : l ≡ unsplit_of k link

record Chosen (t : Tables) (u w : ℕ) (l : LinkFacts) : Type 0 where
  p : ℕ
  f : Text
  d : Text
  at_u : NodeAt t u p (named f)
  at_w : NodeAt t w p (optional d) ⊎ NodeAt t w p (named d)
  is : l ≡ by_name t p Optional d

-- the case of a candidate, by its edge
Told : Tables → ℕ → ℕ → Edge → Type 0
Told t u w feature_to_base = Unit {0}
Told t u w named_feature = Unit {0}
Told t u w (dep_colon l) = Colon t u w l
Told t u w (slash_full l) = Full t u w l
Told t u w (slash_optional l) = Chosen t u w l
Told t u w (slash_weak k l) = (x : Full t u w l) × (x.k ≡ k)
Told t u w (section l) = IsSection t u w Required (λ link. base) (section l) ⊎ IsSection t u w Optional (λ link. optional link.name) (section l)

told : (t : Tables) (u w : ℕ) (e : Edge) → Candidate t u w e → Told t u w e
unfolding Told
told t u w e (to_base p l a b c q) = subst (λ x. Told t u w x) (sym q) tt
told t u w e (to_feature p f g a b c d q) = subst (λ x. Told t u w x) (sym q) tt
told t u w e (to_dependency p f d i a b q) = subst (λ x. Told t u w x) (sym q) (record { p = p; f = f; d = d; at_u = a; at_w = b; is = refl })
told t u w e (over_strong k link weak o n q) = subst (λ x. Told t u w x) (sym q) (record { k = k; link = link; is_link = o.is_link; f = o.f; g = o.g; at_u = o.from_node; at_w = o.to_node; is = refl })
told t u w e (over_weak k link o n q) = subst (λ x. Told t u w x) (sym q) ((record { k = k; link = link; is_link = o.is_link; f = o.f; g = o.g; at_u = o.from_node; at_w = o.to_node; is = refl }), refl)
told t u w e (with_dependency p f d g i a b q) = subst (λ x. Told t u w x) (sym q) (record { p = p; f = f; d = d; at_u = a; at_w = inl b; is = refl })
told t u w e (with_feature p n f d g i a b c m q) = subst (λ x. Told t u w x) (sym q) (record { p = p; f = f; d = d; at_u = a; at_w = inr m; is = refl })
told t u w e (of_required s) = subst (λ x. Told t u w x) (sym s.is_edge) (inl (subst (λ x. IsSection t u w Required (λ link. base) x) s.is_edge s))
told t u w e (of_optional s) = subst (λ x. Told t u w x) (sym s.is_edge) (inr (subst (λ x. IsSection t u w Optional (λ link. optional link.name) x) s.is_edge s))

-- a pair of packages has one link
pub same_link : (t : Tables) → AreTables t → (k j : ℕ) (l m : LinkTable) → IsLink t k l → IsLink t j m → l.from ≡ m.from → l.to ≡ m.to → (k ≡ j) × (l ≡ m)
same_link t tables k j l m a b p q =
    let pair : (m.from, m.to) ≡ (l.from, l.to) = cc in
    let at_k : slice_get (map pair_of t.links) k ≡ Some (l.from, l.to) = slice_get-map pair_of t.links k ∙ ap (option_map pair_of) a in
    let at_j : slice_get (map pair_of t.links) j ≡ Some (l.from, l.to) = slice_get-map pair_of t.links j ∙ ap (option_map pair_of) b ∙ ap Some pair in
    let e : k ≡ j = tables.pairs k j (l.from, l.to) at_k at_j in
    (e, same_got t.links j l m (subst (λ z. slice_get t.links z ≡ Some l) e a) b)

by_name-at : (t : Tables) (which : LinkDeclarations) (p q : ℕ) (c d : Text) → p ≡ q → c ≡ d → by_name t p which c ≡ by_name t q which d
by_name-at t which p q c d h i = ap (λ z. by_name t z which c) h ∙ ap (λ z. by_name t q which z) i

unsplit-at : (k j : ℕ) (l m : LinkTable) → k ≡ j → l ≡ m → unsplit_of k l ≡ unsplit_of j m
unsplit-at k j l m h i = ap (λ z. unsplit_of z l) h ∙ ap (λ z. unsplit_of j z) i

section-at : (which : LinkDeclarations) (x y : LabelName) (k j : ℕ) (l m : LinkTable) → x ≡ y → k ≡ j → l ≡ m → over which (requesting x which) ((k, l) ∷ []) ≡ over which (requesting y which) ((j, m) ∷ [])
section-at which x y k j l m i n o = ap (λ z. over which (requesting z which) ((k, l) ∷ [])) i ∙ ap (λ z. over which (requesting y which) ((z, l) ∷ [])) n ∙ ap (λ z. over which (requesting y which) ((j, z) ∷ [])) o

named_same : (c d : Text) → named c ≡ named d → c ≡ d
named_same c d h = cc

optional_same : (c d : Text) → optional c ≡ optional d → c ≡ d
optional_same c d h = cc

named_optional : (c d : Text) → named c ≡ optional d → ⊥
named_optional c d h = cc

base_optional : (d : Text) → base ≡ optional d → ⊥
base_optional d h = cc

-- a node has one package
pub same_home : (t : Tables) (n p q : ℕ) (x y : LabelName) → NodeAt t n p x → NodeAt t n q y → p ≡ q
same_home t n p q x y a b = ap (λ z. z.0) (same_got _ n (p, x) (q, y) a b)

pub same_label : (t : Tables) (n p q : ℕ) (x y : LabelName) → NodeAt t n p x → NodeAt t n q y → x ≡ y
same_label t n p q x y a b = ap (λ z. z.1) (same_got _ n (p, x) (q, y) a b)

same_colon : (t : Tables) (u w : ℕ) (l m : LinkFacts) → Colon t u w l → Colon t u w m → l ≡ m
same_colon t u w l m a b =
    a.is ∙ by_name-at t Unsplit _ _ _ _ (same_home t u _ _ _ _ a.at_u b.at_u) (optional_same _ _ (same_label t w _ _ _ _ a.at_w b.at_w)) ∙ sym b.is

same_full : (t : Tables) → AreTables t → (u w : ℕ) (l m : LinkFacts) (a : Full t u w l) (b : Full t u w m) → (a.k ≡ b.k) × (l ≡ m)
same_full t tables u w l m a b =
    let e : (a.k ≡ b.k) × (a.link ≡ b.link) = same_link t tables _ _ _ _ a.is_link b.is_link (same_home t u _ _ _ _ a.at_u b.at_u) (same_home t w _ _ _ _ a.at_w b.at_w) in
    (e.0, a.is ∙ unsplit-at _ _ _ _ e.0 e.1 ∙ sym b.is)

same_name : (t : Tables) (w p q : ℕ) (c d : Text) → NodeAt t w p (optional c) ⊎ NodeAt t w p (named c) → NodeAt t w q (optional d) ⊎ NodeAt t w q (named d) → c ≡ d
same_name t w p q c d (inl a) (inl b) = optional_same _ _ (same_label t w _ _ _ _ a b)
same_name t w p q c d (inl a) (inr b) = absurd (named_optional _ _ (same_label t w _ _ _ _ b a))
same_name t w p q c d (inr a) (inl b) = absurd (named_optional _ _ (same_label t w _ _ _ _ a b))
same_name t w p q c d (inr a) (inr b) = named_same _ _ (same_label t w _ _ _ _ a b)

same_chosen : (t : Tables) (u w : ℕ) (l m : LinkFacts) → Chosen t u w l → Chosen t u w m → l ≡ m
same_chosen t u w l m a b = a.is ∙ by_name-at t Optional _ _ _ _ (same_home t u _ _ _ _ a.at_u b.at_u) (same_name t w _ _ _ _ a.at_w b.at_w) ∙ sym b.is

same_section : (t : Tables) → AreTables t → (u w : ℕ) (which : LinkDeclarations) (label : LinkTable → LabelName) (e other : Edge) → IsSection t u w which label e → IsSection t u w which label other → e ≡ other
same_section t tables u w which label e other a b =
    let to : a.link.to ≡ b.link.to = same_home t w _ _ _ _ a.to_node b.to_node in
    let s : (a.k ≡ b.k) × (a.link ≡ b.link) = same_link t tables _ _ _ _ a.is_link b.is_link (same_home t u _ _ _ _ a.from_node b.from_node) to in
    a.is_edge ∙ ap section (section-at which _ _ _ _ _ _ (same_label t w _ _ _ _ a.to_node b.to_node) s.0 s.1) ∙ sym b.is_edge

one_kind : (t : Tables) (u w : ℕ) (e other : Edge) → IsSection t u w Required (λ link. base) e → IsSection t u w Optional (λ link. optional link.name) other → ⊥
one_kind t u w e other a b = base_optional _ (same_label t u _ _ _ _ a.from_node b.from_node)

same_told : (t : Tables) → AreTables t → (u w : ℕ) (e other : Edge) → Told t u w e → Told t u w other → rank_of e ≡ rank_of other → e ≡ other
unfolding Told
same_told t tables u w feature_to_base feature_to_base a b h = refl
same_told t tables u w named_feature named_feature a b h = refl
same_told t tables u w (dep_colon l) (dep_colon m) a b h = ap dep_colon (same_colon t u w l m a b)
same_told t tables u w (slash_full l) (slash_full m) a b h = ap slash_full (same_full t tables u w l m a b).1
same_told t tables u w (slash_optional l) (slash_optional m) a b h = ap slash_optional (same_chosen t u w l m a b)
same_told t tables u w (slash_weak k l) (slash_weak j m) a b h =
    let e : (a.0.k ≡ b.0.k) × (l ≡ m) = same_full t tables u w l m a.0 b.0 in
    ap (λ z. slash_weak z l) (sym a.1 ∙ e.0 ∙ b.1) ∙ ap (λ z. slash_weak j z) e.1
same_told t tables u w (section l) (section m) (inl a) (inl b) h = same_section t tables u w _ _ _ _ a b
same_told t tables u w (section l) (section m) (inl a) (inr b) h = absurd (one_kind t u w _ _ a b)
same_told t tables u w (section l) (section m) (inr a) (inl b) h = absurd (one_kind t u w _ _ b a)
same_told t tables u w (section l) (section m) (inr a) (inr b) h = same_section t tables u w _ _ _ _ a b
same_told t tables u w _ _ a b h = absurd (omega arith)

pub same_rank : (t : Tables) → AreTables t → (u w : ℕ) (e other : Edge) → Candidate t u w e → Candidate t u w other → rank_of e ≡ rank_of other → e ≡ other
same_rank t tables u w e other a b h = same_told t tables u w e other (told t u w e a) (told t u w other b) h

-- a pair of nodes has one edge
pub one_edge : (t : Tables) → AreTables t → (u w : ℕ) (e other : Edge) → IsEdge t u w e → IsEdge t u w other → e ≡ other
one_edge t tables u w e other a b =
    let below : rank_of e ≤ rank_of other = a.least other b.candidate in
    let above : rank_of other ≤ rank_of e = b.least e a.candidate in
    same_rank t tables u w e other a.candidate b.candidate (omega arith)
