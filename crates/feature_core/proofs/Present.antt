-- A link that covers a declaration is present for some kind, so each edge of the tables has a present link.
use Rattle.std.proofs.Common.{◌≡◌, ℕ, zero, suc, ◌+◌, ◌<◌, ⊎_elim, List, [], ◌∷◌, length, Bool, true, false, cond, Option, None, Some, map, refl, ap, sym, ◌∙◌, subst, arith, if◌then◌else◌, is_some}
use Rattle.std.specs.Prelude.{filter, filter_map, flat_map, slice_get, Contains, IsTrue, ◌&&◌, ◌||◌, ◌==◌, not, nat_lt, position}
use Rattle.std.specs.List.{list_any, position_or_len}
use Rattle.std.specs.Str.{bytes_eq}
use Rattle.std.specs.Cmp.Lexicographic.{bytes_decides}
use Rattle.std.proofs.Math.Bool.{Bool-set}
use Rattle.std.proofs.Math.Logic.{∥∥₁_elim}
use Rattle.std.proofs.lemmas.List.Elements.{Contains-append_left, Contains-append_right}
use Rattle.std.proofs.lemmas.Bool.Decides.{nat_tests}
use Rattle.digraphs.specs.declared.digraph.Edge.{Edge as End}
use Rattle.feature_edges.specs.guppy_packages.Graph.{firsts}
use Rattle.feature_edges.specs.guppy_packages.Platform.{always_status, status_by}
use Rattle.feature_edges.specs.guppy_packages.Rows.{Text, Declared}
use Rattle.feature_edges.specs.guppy_packages.Tables.{LinkTable, Tables, AreTables, optional_place, has_name, has_optional_link}
use Rattle.feature_edges.specs.guppy_packages.declared.row.DependencyKind.{DependencyKind}
use Rattle.feature_edges.specs.guppy_packages.declared.row.DependencyKind.TheVariants.{Normal, Build, Development}
use Rattle.feature_edges.specs.feature_labels.Names.{LabelName}
use Rattle.feature_edges.specs.feature_labels.Names.LabelName.{base, optional}
use Rattle.feature_edges.specs.feature_labels.declared.link_declarations.LinkDeclarations.{LinkDeclarations}
use Rattle.feature_edges.specs.feature_labels.declared.link_declarations.LinkDeclarations.TheVariants.{Unsplit, Required, Optional}
use Rattle.feature_edges.specs.Nodes.{NodeAt, labels_of}
use Rattle.feature_edges.specs.feature_links.Links.{LinkFacts, IsLink, platforms_status, is_kind, includes, joined_status, over, numbered, links_named, by_name}
use Rattle.feature_edges.specs.Candidates.{Edge, feature_to_base, named_feature, dep_colon, slash_full, slash_optional, slash_weak, section, Candidate, to_base, to_feature, to_dependency, over_strong, over_weak, with_dependency, with_feature, of_required, of_optional, IsSection, requesting, unsplit_of}
use Rattle.feature_edges.specs.feature_links.Facts.{EdgeFacts, full_link, is_never, is_present}
use Rattle.feature_edges.specs.Edges.{facts_of}
use Rattle.feature_core.specs.Built.{Built, IsBuilt, built_edges}
use Rattle.feature_edges.proofs.AddsLemmas.{Contains-first, Contains-later, Contains-cases, Contains-none, element_at_place}
use Rattle.feature_edges.proofs.BuildLemmas.{built_long}
use Rattle.feature_edges.proofs.LabelLemmas.{position_there, optional_missing}
use Rattle.feature_edges.proofs.PartLemmas.{list_any_there, list_any_back}
use Rattle.feature_edges.proofs.Places.{IsSpread, node_back}
use Rattle.feature_edges.proofs.PushLemmas.{into_map, into_filter}

-- the status of platforms with a spec isn't never
specs_there : (platforms : List (Option Text)) (text : Text) → Contains platforms (Some text) → is_never (status_by (firsts bytes_eq (filter_map (λ p. p) platforms))) ≡ false
specs_there [] text h = absurd (Contains-none (Some text) h)
specs_there (Some s ∷ platforms) text h = refl
specs_there (None ∷ platforms) text h = ⊎_elim
    (λ e. absurd (apart e))
    (λ i. specs_there platforms text i)
    (Contains-cases None platforms (Some text) h)
  where
    apart : ◌≡◌ {A = Option Text} None (Some text) → ⊥
    apart e = cc

place_of : {X : Type 0} (xs : List X) (x : X) → Contains xs x → (p : X → Bool) → IsTrue (p x) → IsTrue (list_any p xs)
place_of [] x h p e = absurd (Contains-none x h)
place_of (y ∷ ys) x h p e = ⊎_elim
    (λ i. list_any_there p (y ∷ ys) 0 x (ap Some i) e)
    (λ i. rw (place_of ys x i p e) (or_true (p y)))
    (Contains-cases y ys x h)
  where
    or_true : (b : Bool) → b || true ≡ true
    or_true true = refl
    or_true false = refl

joined_there : (platforms : List (Option Text)) (p : Option Text) → Contains platforms p → is_never (platforms_status platforms) ≡ false
joined_there platforms p h = go (list_any (λ p. not (is_some p)) platforms) refl p h
  where
    go : (b : Bool) → list_any (λ p. not (is_some p)) platforms ≡ b → (p : Option Text) → Contains platforms p
        → is_never (if b then always_status else status_by (firsts bytes_eq (filter_map (λ p. p) platforms))) ≡ false
    go true e p h = refl
    go false e (Some text) h = specs_there platforms text h
    go false e None h =
        let every : IsTrue (list_any (λ p. not (is_some p)) platforms) = place_of platforms None h (λ p. not (is_some p)) refl in
        cc

into_flat_map : {X Y : Type 0} (f : X → List Y) (xs : List X) (x : X) (y : Y) → Contains xs x → Contains (f x) y → Contains (flat_map f xs) y
into_flat_map f [] x y h i = absurd (Contains-none x h)
into_flat_map f (z ∷ xs) x y h i = ⊎_elim
    (λ e. Contains-append_left (f z) (flat_map f xs) y (subst (λ v. Contains (f v) y) (sym e) i))
    (λ e. Contains-append_right (f z) (flat_map f xs) y (into_flat_map f xs x y e i))
    (Contains-cases z xs x h)

turned : (a b : ℕ) → (a == b) ≡ true → (b == a) ≡ true
turned a b h = grind (arith, nat_tests)

both_true : (a b : Bool) → a ≡ true → b ≡ true → a && b ≡ true
both_true a b h i = rw (h, i)

-- the status of a kind with a covered declaration isn't never
status_there : (kind : DependencyKind) (passes : Declared → Bool) (links : List (ℕ × LinkTable)) (l : ℕ × LinkTable) (d : Declared) → Contains links l → Contains l.1.declarations d
    → passes d ≡ true → is_kind kind d.kind ≡ true → is_never (joined_status kind passes links) ≡ false
status_there kind passes links l d h i p e =
    let kept = into_filter (λ d. passes d && is_kind kind d.kind) l.1.declarations d i (both_true (passes d) (is_kind kind d.kind) p e) in
    joined_there (flat_map (λ l. map (λ d. d.platform) (filter (λ d. passes d && is_kind kind d.kind) l.1.declarations)) links) d.platform
    (into_flat_map (λ l. map (λ d. d.platform) (filter (λ d. passes d && is_kind kind d.kind) l.1.declarations)) links l d.platform h
    (into_map (λ d. d.platform) (filter (λ d. passes d && is_kind kind d.kind) l.1.declarations) d kept))

normal_there : (a b c : Bool) → a ≡ false → not (a && b && c) ≡ true
normal_there a b c h = rw h

build_there : (a b c : Bool) → b ≡ false → not (a && b && c) ≡ true
build_there true b c h = rw h
build_there false b c h = refl

dev_there : (a b c : Bool) → c ≡ false → not (a && b && c) ≡ true
dev_there true true c h = rw h
dev_there true false c h = refl
dev_there false b c h = refl

-- a link that covers a declaration is present
over_there : (which : LinkDeclarations) (passes : Declared → Bool) (links : List (ℕ × LinkTable)) (l : ℕ × LinkTable) (d : Declared) → Contains links l → Contains l.1.declarations d
    → passes d ≡ true → IsTrue (is_present (over which passes links))
over_there which passes links l d h i p = go d.kind refl
  where
    never : DependencyKind → Bool
    never = λ kind. is_never (joined_status kind passes links)

    there : (kind : DependencyKind) → is_kind kind d.kind ≡ true → is_never (joined_status kind passes links) ≡ false
    there kind e = status_there kind passes links l d h i p e

    go : (kind : DependencyKind) → d.kind ≡ kind → IsTrue (is_present (over which passes links))
    go Normal e = normal_there (never Normal) (never Build) (never Development) (there Normal (ap (is_kind Normal) e))
    go Build e = build_there (never Normal) (never Build) (never Development) (there Build (ap (is_kind Build) e))
    go Development e = dev_there (never Normal) (never Build) (never Development) (there Development (ap (is_kind Development) e))

-- the link over one package link with a covered declaration is present
one_there : (which : LinkDeclarations) (passes : Declared → Bool) (k : ℕ) (link : LinkTable) → IsTrue (list_any passes link.declarations) → IsTrue (is_present (over which passes ((k, link) ∷ [])))
one_there which passes k link h =
    let q = list_any_back passes link.declarations h in
    over_there which passes ((k, link) ∷ []) (k, link) q.element (Contains-first (k, link) []) (element_at_place link.declarations q.place q.element q.there) q.passes

any_declaration : (ds : List Declared) → 0 < length ds → IsTrue (list_any (λ d. true) ds)
any_declaration [] h = absurd (omega (arith, h))
any_declaration (d ∷ ds) h = refl

unsplit_there : (t : Tables) → AreTables t → (k : ℕ) (link : LinkTable) → IsLink t k link → IsTrue (is_present (unsplit_of k link))
unsplit_there t tables k link is = one_there Unsplit (λ d. true) k link (any_declaration link.declarations (tables.declarations k link is))

numbered_has : (q : ℕ) (ls : List LinkTable) (k : ℕ) (link : LinkTable) → slice_get ls k ≡ Some link → (n : ℕ) × Contains (numbered q ls) (n, link)
numbered_has q [] k link h = cc
numbered_has q (l ∷ ls) zero link h =
    let e : l ≡ link = cc in
    (q, subst (λ z. Contains (numbered q (l ∷ ls)) (q, z)) e (Contains-first (q, l) (numbered (q + 1) ls)))
numbered_has q (l ∷ ls) (suc k) link h = let r = numbered_has (q + 1) ls k link h in (r.0, Contains-later (q, l) (numbered (q + 1) ls) (r.0, link) r.1)

two : (a b : Bool) → a && b ≡ true → (a ≡ true) × (b ≡ true)
two true b h = (refl, h)
two false b h = cc

-- a package with an optional node has a link of its name with an optional declaration
name_there : (t : Tables) → AreTables t → (n p : ℕ) (name : Text) → NodeAt t n p (optional name) → IsTrue (has_optional_link p name t.links)
name_there t tables n p name at = go (optional_place name s.row.optional_names) refl
  where
    s : IsSpread labels_of t.packages n p (optional name)
    s = node_back t n p (optional name) at

    apart : ◌≡◌ {A = Option ℕ} None (Some n) → ⊥
    apart e = cc

    go : (o : Option ℕ) → optional_place name s.row.optional_names ≡ o → IsTrue (has_optional_link p name t.links)
    go None e = absurd (apart ((optional_missing t p s.row s.is_row name e n).1 at))
    go (Some k) e =
        let q = position_there (bytes_eq name) k s.row.optional_names e in
        let has : IsTrue (has_name name s.row.optional_names) = list_any_there (bytes_eq name) s.row.optional_names k q.element q.there q.passes in
        sym (tables.optional p s.row name s.is_row) ∙ has

-- a package link of a name, with an optional declaration
record HasOptional (t : Tables) (p : ℕ) (name : Text) : Type 0 where
  number : ℕ
  link : LinkTable
  among : Contains (links_named t p name) (number, link)
  declared : Declared
  there : Contains link.declarations declared
  is_optional : declared.optional ≡ true

optional_there : (t : Tables) (p : ℕ) (name : Text) → IsTrue (has_optional_link p name t.links) → HasOptional t p name
optional_there t p name h =
    let q = list_any_back (λ l. (p == l.from) && bytes_eq name l.name && list_any (λ d. d.optional) l.declarations) t.links h in
    let a = two ((p == q.element.from) && bytes_eq name q.element.name) (list_any (λ d. d.optional) q.element.declarations) q.passes in
    let b = two (p == q.element.from) (bytes_eq name q.element.name) a.0 in
    let n = numbered_has 0 t.links q.place q.element q.there in
    let d = list_any_back (λ d. d.optional) q.element.declarations a.1 in
    let from : (q.element.from == p) ≡ true = turned p q.element.from b.0 in
    let named : bytes_eq q.element.name name ≡ true = (bytes_decides q.element.name name).1 (sym ((bytes_decides name q.element.name).0 b.1)) in
    record {
      number = n.0;
      link = q.element;
      among = into_filter (λ l. (l.1.from == p) && bytes_eq l.1.name name) (numbered 0 t.links) (n.0, q.element) n.1 (both_true (q.element.from == p) (bytes_eq q.element.name name) from named);
      declared = d.element;
      there = element_at_place q.element.declarations d.place d.element d.there;
      is_optional = d.passes;
    }

name_link : (t : Tables) → AreTables t → (n p : ℕ) (name : Text) → NodeAt t n p (optional name) → (which : LinkDeclarations) → ((d : Declared) → d.optional ≡ true → includes which d ≡ true)
    → IsTrue (is_present (by_name t p which name))
name_link t tables n p name at which covers =
    let h = optional_there t p name (name_there t tables n p name at) in
    over_there which (λ d. includes which d) (links_named t p name) (h.number, h.link) h.declared h.among h.there (covers h.declared h.is_optional)

-- the built edge has no link, or a present one
abbrev IsSound : Tables → Edge → Type 0
IsSound t e = (weak : List ℕ) (l : LinkFacts) → full_link (facts_of t weak e) ≡ Some l → IsTrue (is_present l)

same_link : (m l : LinkFacts) → ◌≡◌ {A = Option LinkFacts} (Some m) (Some l) → IsTrue (is_present m) → IsTrue (is_present l)
same_link m l e h =
    let same : m ≡ l = cc in
    subst (λ z. IsTrue (is_present z)) same h

sound_of : (t : Tables) (e other : Edge) → e ≡ other → IsSound t other → IsSound t e
sound_of t e other is h = subst (λ z. IsSound t z) (sym is) h

section_sound : (t : Tables) (u w : ℕ) (which : LinkDeclarations) (label : LinkTable → LabelName) (e : Edge) → IsSection t u w which label e → IsSound t e
section_sound t u w which label e h =
    sound_of t e (section (over which (requesting h.asked which) ((h.k, h.link) ∷ []))) h.is_edge
    (λ weak l i. same_link (over which (requesting h.asked which) ((h.k, h.link) ∷ [])) l i (one_there which (requesting h.asked which) h.k h.link h.is_requested))

-- the same for each candidate
candidate_sound : (t : Tables) → AreTables t → (u w : ℕ) (e : Edge) → Candidate t u w e → IsSound t e
candidate_sound t tables u w e (to_base p label from differ to is) = sound_of t e feature_to_base is (λ weak l h. cc)
candidate_sound t tables u w e (to_feature p f g item differ from to is) = sound_of t e named_feature is (λ weak l h. cc)
candidate_sound t tables u w e (to_dependency p f d item from to is) =
    sound_of t e (dep_colon (by_name t p Unsplit d)) is (λ weak l h. same_link (by_name t p Unsplit d) l h (name_link t tables w p d to Unsplit (λ x o. refl)))
candidate_sound t tables u w e (over_strong k link weak leads strong is) =
    sound_of t e (slash_full (unsplit_of k link)) is (λ weak l h. same_link (unsplit_of k link) l h (unsplit_there t tables k link leads.is_link))
candidate_sound t tables u w e (over_weak k link leads has is) =
    sound_of t e (slash_weak k (unsplit_of k link)) is (λ weak l h. same_link (unsplit_of k link) l h (unsplit_there t tables k link leads.is_link))
candidate_sound t tables u w e (with_dependency p f d g item from to is) =
    sound_of t e (slash_optional (by_name t p Optional d)) is (λ weak l h. same_link (by_name t p Optional d) l h (name_link t tables w p d to Optional (λ x o. o)))
candidate_sound t tables u w e (with_feature p n f d g item from beside differ to is) =
    sound_of t e (slash_optional (by_name t p Optional d)) is (λ weak l h. same_link (by_name t p Optional d) l h (name_link t tables n p d beside Optional (λ x o. o)))
candidate_sound t tables u w e (of_required s) = section_sound t u w Required (λ link. base) e s
candidate_sound t tables u w e (of_optional s) = section_sound t u w Optional (λ link. optional link.name) e s

-- the link of each built conditional edge is present
pub links_present : (t : Tables) → AreTables t → (b : Built) → IsBuilt t b → (k : ℕ) (e : ℕ × ℕ × EdgeFacts) (l : LinkFacts) → slice_get b.edges k ≡ Some e → full_link e.2 ≡ Some l → IsTrue (is_present l)
links_present t tables b h k e l at is =
    ∥∥₁_elim
    ((h.edges.exact e.0 e.1 e.2).0 (element_at_place b.edges k e at))
    (Bool-set _ _)
    (λ s. candidate_sound t tables e.0 e.1 s.0 s.1.candidate (map (λ x. x.0) b.weak) l (ap full_link (sym s.2) ∙ is))

-- the first edge that passes has the place of the first value that passes
module _ (p : EdgeFacts → Bool) where
  or_len_built : (ends : List End) (facts : List EdgeFacts) → length facts ≡ length ends → position_or_len (λ e. p e.2) (built_edges ends facts) ≡ position_or_len p facts
  or_len_built [] [] h = refl
  or_len_built [] (f ∷ facts) h = absurd (omega (arith, h))
  or_len_built (e ∷ ends) [] h = absurd (omega (arith, h))
  or_len_built (e ∷ ends) (f ∷ facts) h = ap (λ n. cond (not (p f)) (1 + n) 0) (or_len_built ends facts (omega (arith, h)))

  pub position_built : (edges : List (ℕ × ℕ × EdgeFacts)) (ends : List End) (facts : List EdgeFacts) → edges ≡ built_edges ends facts → length facts ≡ length ends
      → position p facts ≡ position (λ e. p e.2) edges
  position_built edges ends facts shown h =
      let long : length facts ≡ length (built_edges ends facts) = h ∙ built_long ends facts h in
      ap (λ n. cond (nat_lt n (length facts)) (Some n) None) (sym (or_len_built ends facts h))
      ∙ ap (λ m. cond (nat_lt (position_or_len (λ e. p e.2) (built_edges ends facts)) m) (Some (position_or_len (λ e. p e.2) (built_edges ends facts))) None) long
      ∙ ap (position (λ e. p e.2)) (sym shown)
