-- The edges of alike keys are equal.
use Rattle.feature_edges.specs.inner.Keys.{rank}
use Rattle.std.proofs.Common.{◌≡◌, ℕ, zero, suc, ◌⊎◌, inl, inr, ⊎_elim, List, [], ◌∷◌, ◌++◌, length, map, Bool, true, Option, Some, refl, ap, sym, ◌∙◌, subst, arith}
use Rattle.std.specs.Prelude.{slice_get, Contains, IsTrue}
use Rattle.std.proofs.lemmas.List.{append-nil}
use Rattle.guppy_packages.specs.Rows.{Declared}
use Rattle.guppy_packages.specs.Tables.{LinkTable, Tables, AreTables}
use Rattle.feature_labels.specs.Names.LabelName.{base, optional}
use Rattle.feature_labels.specs.declared.link_declarations.LinkDeclarations.{LinkDeclarations}
use Rattle.feature_labels.specs.declared.link_declarations.LinkDeclarations.TheVariants.{Required, Optional}
use Rattle.feature_edges.specs.declared.candidate.CandidateKind.TheVariants.{FeatureToBase, NamedFeature, SlashFull, SlashWeak, Section}
use Rattle.feature_edges.specs.Nodes.{NodeAt}
use Rattle.feature_links.specs.Links.{LinkFacts, IsLink, over}
use Rattle.feature_edges.specs.Candidates.{Edge, slash_full, slash_weak, section, requesting, unsplit_of}
use Rattle.feature_links.specs.Facts.{EdgeFacts}
use Rattle.feature_edges.specs.Edges.{facts_of, first_ones}
use Rattle.feature_edges.specs.inner.Alike.{IsSingle, SharesSubject, one_link, one_declaration, AreAlike}
use Rattle.feature_edges.specs.inner.Made.{IsValueOf, HasEdge, IsLast, IsAdded, IsAppended, AreMade, edge_end}
use Rattle.feature_edges.specs.inner.Parts.{IsOfTables}
use Rattle.feature_edges.specs.inner.Weak.{AreGates, weak_sources}
use Rattle.feature_edges.specs.declared.table.MadeEdges.{MadeEdges}
use Rattle.feature_edges.specs.declared.candidate.Key.{Key}
use Rattle.feature_edges.proofs.KeyEdges.{IsTold, told_full, told_weak, told_section}
use Rattle.feature_edges.proofs.KeySays.{SaysOver, SaysSection}
use Rattle.feature_edges.proofs.PairLemmas.{names_differ}
use Rattle.feature_edges.proofs.PartLemmas.{NamesDiffer}
use Rattle.feature_edges.proofs.Places.{get_left, get_right, got_same}
use Rattle.feature_edges.proofs.KindLemmas.{one_rank}
use Rattle.feature_edges.proofs.Ranks.{same_label, same_rank}
use Rattle.feature_edges.proofs.SectionPlaces.{of_link}
use Rattle.feature_edges.proofs.ValueLemmas.{made_next}
use Rattle.feature_edges.proofs.WeakLemmas.{links_kept}

-- a link whose only declaration passes is over all of them
over_only : (p : Declared → Bool) (which : LinkDeclarations) (k : ℕ) (link : LinkTable) (j : ℕ) (d : Declared) → length link.declarations ≡ 1 → slice_get link.declarations j ≡ Some d → IsTrue (p d)
    → over which p ((k, link) ∷ []) ≡ over which (λ x. true) ((k, link) ∷ [])
over_only p which k link j d long at h = go link.declarations refl long at
  where
    go : (ds : List Declared) → link.declarations ≡ ds → length ds ≡ 1 → slice_get ds j ≡ Some d → over which p ((k, link) ∷ []) ≡ over which (λ x. true) ((k, link) ∷ [])
    go [] e l at = absurd (omega (arith, l))
    go (c ∷ f ∷ ds) e l at = absurd (omega (arith, l))
    go (c ∷ []) e l at = rw (e, passes c j at)
      where
        passes : (c : Declared) (j : ℕ) → slice_get (c ∷ []) j ≡ Some d → p c ≡ true
        passes c zero at = ap p (got_same c d at) ∙ h
        passes c (suc j) at = cc

same_got : {X : Type 0} (xs : List X) (n : ℕ) (a b : X) → slice_get xs n ≡ Some a → slice_get xs n ≡ Some b → a ≡ b
same_got xs n a b p q = cc

module _ (t : Tables) (x y : Key) (l m : LinkFacts) where
  pub over_alike : x.source ≡ y.source → SaysOver t x l → SaysOver t y m → l ≡ m
  over_alike h a b =
      let link : a.link ≡ b.link = same_got t.links y.source a.link b.link (subst (λ z. IsLink t z a.link) h a.is_link) b.is_link in
      a.is ∙ ap (λ z. unsplit_of z a.link) h ∙ ap (λ z. unsplit_of y.source z) link ∙ sym b.is

-- the source of an edge determines the declarations that it covers
one_half : (t : Tables) (n : ℕ) (a b : LinkDeclarations) (v w : LinkTable)
    → ((a ≡ Required) × NodeAt t n v.from base) ⊎ ((a ≡ Optional) × NodeAt t n v.from (optional v.name))
    → ((b ≡ Required) × NodeAt t n w.from base) ⊎ ((b ≡ Optional) × NodeAt t n w.from (optional w.name)) → a ≡ b
one_half t n a b v w (inl p) (inl q) = p.0 ∙ sym q.0
one_half t n a b v w (inl p) (inr q) = let no = same_label t n v.from w.from base (optional w.name) p.1 q.1 in cc
one_half t n a b v w (inr p) (inl q) = let no = same_label t n v.from w.from (optional v.name) base p.1 q.1 in cc
one_half t n a b v w (inr p) (inr q) = p.0 ∙ sym q.0

-- a section over a link with one declaration covers all of its declarations
section_whole : (t : Tables) → AreTables t → (x : Key) (l : LinkFacts) → IsOfTables t x → x.kind ≡ Section → IsSingle t x.source → (s : SaysSection t x l) → l ≡ over s.which (λ d. true) ((x.source, s.link) ∷ [])
section_whole t tables x l h r single s =
    let o = of_link t tables x l s x h r refl refl in
    s.is ∙ over_only (requesting s.asked s.which) s.which x.source s.link x.place o.declared (single s.link s.is_link) o.at o.passes

section_alike : (t : Tables) → AreTables t → (x y : Key) (l m : LinkFacts) → IsOfTables t x → IsOfTables t y → x.kind ≡ Section → y.kind ≡ Section → x.source ≡ y.source → x.from ≡ y.from → IsSingle t y.source → SaysSection t x l → SaysSection t y m → l ≡ m
section_alike t tables x y l m hx hy rx ry source from single a b =
    let link : a.link ≡ b.link = same_got t.links y.source a.link b.link (subst (λ z. IsLink t z a.link) source a.is_link) b.is_link in
    let start = subst (λ z. ((a.which ≡ Required) × NodeAt t z a.link.from base) ⊎ ((a.which ≡ Optional) × NodeAt t z a.link.from (optional a.link.name))) from a.start in
    let which : a.which ≡ b.which = one_half t y.from a.which b.which a.link b.link start b.start in
    section_whole t tables x l hx rx (subst (λ z. IsSingle t z) (sym source) single) a
    ∙ ap (λ z. over z (λ d. true) ((x.source, a.link) ∷ [])) which
    ∙ ap (λ z. over b.which (λ d. true) ((z, a.link) ∷ [])) source
    ∙ ap (λ z. over b.which (λ d. true) ((y.source, z) ∷ [])) link
    ∙ sym (section_whole t tables y m hy ry single b)

module _ (t : Tables) (tables : AreTables t) (weak : List ℕ) (x y : Key) (hx : IsOfTables t x) (hy : IsOfTables t y) (f : EdgeFacts) (v : IsValueOf t weak x f) where
  -- the value of one key is a value of another, if both determine the same edge
  by_told : (make other : LinkFacts → Edge) (A B : LinkFacts → Type 0) (o : IsTold t x make A) (p : IsTold t y other B) → make o.link ≡ other p.link → IsValueOf t weak y f
  by_told make other A B o p same =
      let edge : v.edge ≡ make o.link = same_rank t tables x.from x.to v.edge (make o.link) v.candidate o.candidate (one_rank v.edge (make o.link) (sym v.kind ∙ o.kind)) in
      record { edge = other p.link; candidate = p.candidate; kind = p.kind; is = v.is ∙ ap (facts_of t weak) (edge ∙ same) }

  differ : NamesDiffer t
  differ = names_differ t tables

  alike_full : x.kind ≡ SlashFull → y.kind ≡ SlashFull → x.source ≡ y.source → IsValueOf t weak y f
  alike_full p q source =
      let a = told_full t differ weak x hx p in
      let b = told_full t differ weak y hy q in
      by_told slash_full slash_full (SaysOver t x) (SaysOver t y) a b (ap slash_full (over_alike t x y a.link b.link source a.tells b.tells))

  alike_weak : x.kind ≡ SlashWeak → y.kind ≡ SlashWeak → x.source ≡ y.source → IsValueOf t weak y f
  alike_weak p q source =
      let a = told_weak t differ weak x hx p in
      let b = told_weak t differ weak y hy q in
      by_told (slash_weak x.source) (slash_weak y.source) (SaysOver t x) (SaysOver t y) a b
      (ap (λ z. slash_weak z a.link) source ∙ ap (slash_weak y.source) (over_alike t x y a.link b.link source a.tells b.tells))

  alike_section : x.kind ≡ Section → y.kind ≡ Section → x.source ≡ y.source → x.from ≡ y.from → IsSingle t y.source → IsValueOf t weak y f
  alike_section p q source from single =
      let a = told_section t differ weak x hx p in
      let b = told_section t differ weak y hy q in
      by_told section section (SaysSection t x) (SaysSection t y) a b
      (ap section (section_alike t tables x y a.link b.link hx hy p q source from single a.tells b.tells))

  by_subject : x.kind ≡ y.kind → SharesSubject t x y → IsValueOf t weak y f
  by_subject r (one_link k source) = ⊎_elim (λ q. alike_full (r ∙ q) q source) (λ q. alike_weak (r ∙ q) q source) k
  by_subject r (one_declaration q source from single) = alike_section (r ∙ q) q source from single

-- a value of a key is a value of each alike key
pub alike_value : (t : Tables) → AreTables t → (x y : Key) → IsOfTables t x → IsOfTables t y → AreAlike t x y → (weak : List ℕ) (f : EdgeFacts) → IsValueOf t weak x f → IsValueOf t weak y f
alike_value t tables x y hx hy h weak f v = by_subject t tables weak x y hx hy f v h.kind h.subject

-- the key of an unconditional edge isn't that of a weak one
pub plain_strong : (x : Key) → (x.kind ≡ FeatureToBase) ⊎ (x.kind ≡ NamedFeature) → x.kind ≡ SlashWeak → ⊥
plain_strong x (inl k) w = omega (arith, ap rank k, ap rank w)
plain_strong x (inr k) w = omega (arith, ap rank k, ap rank w)

-- alike keys of weak edges have one link
one_source : (t : Tables) (x y : Key) → SharesSubject t x y → y.kind ≡ SlashWeak → x.source ≡ y.source
one_source t x y (one_link k source) w = source
one_source t x y (one_declaration k source from single) w = source

-- the edge of the last key, if it is alike
pub last_edge : (t : Tables) → AreTables t → (m : MadeEdges) (x y : Key) (number : ℕ) → IsOfTables t y → IsLast t m → m.last ≡ Some (x, number) → AreAlike t x y → HasEdge t m y number
last_edge t tables m x y number hy last is alike =
    let h = last x number is in
    record {
      of_tables = hy;
      says = h.says;
      at = h.at;
      value = λ rest. alike_value t tables x y h.of_tables hy alike _ h.says (h.value rest);
      noted = λ weak. subst (Contains (map (λ e. e.0) m.weak.entries)) (one_source t x y alike.subject weak) (h.noted (alike.kind ∙ weak));
    }

-- the last key keeps its edge while another is appended
last_kept : (t : Tables) (x : Key) (old new : MadeEdges) → IsAdded t x old new → IsLast t old → IsLast t new
last_kept t x old new a last y number is =
    let h = last y number (sym a.appended.last ∙ is) in
    record {
      of_tables = h.of_tables;
      says = h.says;
      at = ap (λ z. slice_get z number) a.appended.edges ∙ get_left old.edges (a.says ∷ []) number h.says h.at;
      value = λ rest. subst (λ z. IsValueOf t (map (λ e. e.0) z ++ rest) y h.says) (sym a.appended.weak) (h.value rest);
      noted = λ weak. subst (λ z. Contains (map (λ e. e.0) z) y.source) (sym a.appended.weak) (h.noted weak);
    }

one_pair : (x y : Key) (m n : ℕ) → ◌≡◌ {A = Option (Key × ℕ)} (Some (x, m)) (Some (y, n)) → (x ≡ y) × (m ≡ n)
one_pair x y m n e =
    let same : ◌≡◌ {A = Key × ℕ} (x, m) (y, n) = cc in
    (ap (λ p. p.0) same, ap (λ p. p.1) same)

-- a key with an edge of its own becomes the last
pub last_own : (t : Tables) (x : Key) (old new : MadeEdges) → IsOfTables t x → IsAdded t x old new → (x.kind ≡ SlashWeak → Contains (map (λ e. e.0) old.weak.entries) x.source) → old.last ≡ Some (x, length old.edges) → IsLast t new
last_own t x old new hx a noted here y number is =
    let same = one_pair x y (length old.edges) number (sym here ∙ sym a.appended.last ∙ is) in
    subst (λ z. HasEdge t new z number) same.0 (subst (HasEdge t new x) same.1 (record {
      of_tables = hx;
      says = a.says;
      at = ap (λ z. slice_get z (length old.edges)) a.appended.edges ∙ get_right old.edges (a.says ∷ []) (length old.edges) 0 (omega arith);
      value = a.value;
      noted = λ weak. subst (λ z. Contains (map (λ e. e.0) z) x.source) (sym a.appended.weak) (noted weak);
    }))

-- the edge of an alike key, appended again
pub repeat_added : (t : Tables) (x : Key) (number : ℕ) (old new : MadeEdges) (h : HasEdge t old x number) → IsAppended x h.says old new → IsAdded t x old new
repeat_added t x number old new h a = record { says = h.says; appended = a; value = λ rest. subst (λ z. IsValueOf t (map (λ e. e.0) z ++ rest) x h.says) (sym a.weak) (h.value rest) }

-- the edges with one more, after its weak link is noted
pub added_made : (t : Tables) (done : List Key) (x : Key) (old mid new : MadeEdges) (more : List ℕ)
    → map (λ e. e.0) mid.weak.entries ≡ first_ones (weak_sources (done ++ x ∷ []))
    → AreGates t mid.weak.entries
    → map (λ e. e.0) mid.weak.entries ≡ map (λ e. e.0) old.weak.entries ++ more
    → mid.edges ≡ old.edges → mid.ends ≡ old.ends
    → IsAdded t x mid new → IsLast t new → AreMade t done old → AreMade t (done ++ x ∷ []) new
added_made t done x old mid new more links gates grown edges ends a last h =
    let same = a.appended.weak in
    made_next t done x old new a.says more
    (ap (map (λ e. e.0)) same ∙ links)
    (subst (λ z. AreGates t z) (sym same) gates)
    (ap (map (λ e. e.0)) same ∙ grown)
    (a.appended.edges ∙ ap (λ z. z ++ a.says ∷ []) edges)
    (a.appended.ends ∙ ap (λ z. z ++ edge_end x a.says ∷ []) ends)
    a.value
    last
    h

-- the edges with one more, whose weak link was noted earlier
pub noted_made : (t : Tables) (done : List Key) (x : Key) (old new : MadeEdges) → (x.kind ≡ SlashWeak → Contains (map (λ e. e.0) old.weak.entries) x.source)
    → IsAdded t x old new → AreMade t done old → AreMade t (done ++ x ∷ []) new
noted_made t done x old new noted a h =
    let numbers : List ℕ = map (λ e. e.0) old.weak.entries in
    added_made t done x old old new [] (links_kept done x numbers noted h.links) h.gates (sym (append-nil numbers)) refl refl a (last_kept t x old new a h.last) h
