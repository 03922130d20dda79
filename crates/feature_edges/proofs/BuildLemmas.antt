-- The edges built from the least keys are those of the tables.
use Rattle.std.proofs.Common.{◌≡◌, ℕ, zero, suc, ◌<◌, ⊎_elim, List, [], ◌∷◌, length, map, true, cond, Option, Some, refl, sym, ap, ◌∙◌, subst, arith}
use Rattle.std.specs.Prelude.{◌↔◌, Contains, All, AllPairs, slice_get, filter_map}
use Rattle.std.specs.List.{zip, cons_option, list_any}
use Rattle.std.proofs.lemmas.List.Elements.{All-cons, All-head, All-tail}
use Rattle.std.proofs.lemmas.List.Kept.{AllPairs-cons}
use Rattle.digraphs.specs.declared.digraph.Edge.{Edge as End}
use Rattle.std.proofs.Math.Logic.{∥∥₁_elim}
use Rattle.guppy_packages.specs.Rows.{Declared}
use Rattle.guppy_packages.specs.Tables.{LinkTable, Tables, AreTables}
use Rattle.feature_links.specs.Links.{LinkFacts}
use Rattle.feature_edges.specs.EdgeEnds.{pairs_of, end_of, built_edges}
use Rattle.feature_edges.specs.inner.Keys.{edge_of as end_of_key, kind_of, AreLeast, IsBefore}
use Rattle.feature_edges.specs.Candidates.{Edge, IsEdge, feature_to_base, named_feature, dep_colon, slash_full, slash_optional, slash_weak, section, unsplit_of}
use Rattle.feature_links.specs.Facts.{EdgeFacts}
use Rattle.feature_edges.specs.Edges.{EdgeBefore, AreBuilt, ends_of, weak_link, first_ones, facts_of}
use Rattle.feature_edges.specs.inner.Made.{AreValues, IsValueOf, IsKept, AreMadeBelow, edge_end}
use Rattle.feature_edges.specs.inner.Weak.{weak_source, weak_source_of, weak_sources, AreGates}
use Rattle.feature_edges.specs.declared.candidate.Key.{Key}
use Rattle.feature_edges.specs.Pairs.{IsPairList}
use Rattle.feature_edges.specs.inner.Parts.{IsOfTables}
use Rattle.feature_edges.proofs.AddsLemmas.{Contains-first, Contains-later, Contains-cases, Contains-none}
use Rattle.feature_edges.proofs.EdgeLemmas.{least_is_edge}
use Rattle.feature_edges.proofs.KeySays.{Says}
use Rattle.feature_edges.proofs.KindLemmas.{one_rank}
use Rattle.feature_edges.specs.EdgesOnce.{edge_there-prop}
use Rattle.feature_edges.proofs.PartLemmas.{stands_for, contributed}
use Rattle.feature_edges.proofs.PairLemmas.{names_differ, pairs_kept}
use Rattle.std.proofs.lemmas.List.{append-nil}
use Rattle.feature_edges.specs.declared.table.MadeEdges.{MadeEdges}
use Rattle.feature_edges.proofs.SourceLemmas.{kept_all}
use Rattle.feature_edges.proofs.Ranks.{same_rank, one_edge}

-- the weak link of an edge's key, by the edge's kind
source_at : (x : Key) (e : Edge) → x.kind ≡ kind_of e → weak_source_of (kind_of e) x.source ≡ weak_source x
source_at x e h = ap (λ k. weak_source_of k x.source) (sym h)

-- the link of a weak edge is over its package link alone
pub alone : (k : ℕ) (link : LinkTable) → 0 < length link.declarations → (unsplit_of k link).package_links ≡ k ∷ []
alone k link some = ap (λ b. map (λ (l : ℕ × LinkTable). l.0) (cond b ((k, link) ∷ []) [])) (many link.declarations some)
  where
    many : (ds : List Declared) → 0 < length ds → list_any (λ d. true) ds ≡ true
    many [] l = absurd (omega (arith, l))
    many (d ∷ ds) l = refl

-- the value of each key with its pair
abbrev pub told : List Key → List EdgeFacts → List (ℕ × ℕ × EdgeFacts)
told kept facts = map (λ p. (p.0.from, p.0.to, p.1)) (zip kept facts)

first_before : (k : Key) (kept : List Key) → AllPairs IsBefore (k ∷ kept) → All (IsBefore k) kept
first_before k kept h j d l = h 0 (suc j) d (omega arith) (omega arith)

later_before : (k : Key) (kept : List Key) → AllPairs IsBefore (k ∷ kept) → AllPairs IsBefore kept
later_before k kept h i j d l m = h (suc i) (suc j) d (omega arith) (omega arith)

all_after : (k : Key) (f : EdgeFacts) (kept : List Key) (facts : List EdgeFacts) → All (IsBefore k) kept → All (EdgeBefore (k.from, k.to, f)) (told kept facts)
all_after k f [] facts h = λ i d l. absurd (omega arith)
all_after k f (x ∷ kept) [] h = λ i d l. absurd (omega arith)
all_after k f (x ∷ kept) (g ∷ facts) h = All-cons (EdgeBefore (k.from, k.to, f)) (x.from, x.to, g) (told kept facts) (All-head (IsBefore k) x kept h) (all_after k f kept facts (All-tail (IsBefore k) x kept h))

ascending : (kept : List Key) (facts : List EdgeFacts) → AllPairs IsBefore kept → AllPairs EdgeBefore (told kept facts)
ascending [] facts h = λ i j d l m. absurd (omega arith)
ascending (k ∷ kept) [] h = λ i j d l m. absurd (omega arith)
ascending (k ∷ kept) (f ∷ facts) h =
    AllPairs-cons EdgeBefore (k.from, k.to, f) (told kept facts) (all_after k f kept facts (first_before k kept h)) (ascending kept facts (later_before k kept h))

placed : (edges : List (ℕ × ℕ × EdgeFacts)) (a b : ℕ × ℕ × EdgeFacts) → a ≡ b → Contains edges a → Contains edges b
placed edges a b e h = subst (λ z. Contains edges z) e h

module _ (t : Tables) (tables : AreTables t) where
  abbrev IsAll : List Key → Type 0
  IsAll kept = (x : Key) → Contains kept x → IsOfTables t x

  tail_values : (weak : List ℕ) (k : Key) (kept : List Key) (f : EdgeFacts) (facts : List EdgeFacts) → AreValues t weak (k ∷ kept) (f ∷ facts) → AreValues t weak kept facts
  tail_values weak k kept f facts h = record { long = omega (arith, h.long); each = λ i x g a b. h.each (suc i) x g a b }

  record IsTold (weak : List ℕ) (kept : List Key) (x : ℕ × ℕ × EdgeFacts) : Type 0 where
    key : Key
    is_key : Contains kept key
    from : key.from ≡ x.0
    to : key.to ≡ x.1
    value : IsValueOf t weak key x.2

  told_back : (weak : List ℕ) (kept : List Key) (facts : List EdgeFacts) → AreValues t weak kept facts → (x : ℕ × ℕ × EdgeFacts) → Contains (told kept facts) x → IsTold weak kept x
  told_back weak [] facts v x h = absurd (Contains-none x h)
  told_back weak (k ∷ kept) [] v x h = absurd (Contains-none x h)
  told_back weak (k ∷ kept) (f ∷ facts) v x h =
      ⊎_elim
      (λ e. subst (λ z. IsTold weak (k ∷ kept) z) e (record { key = k; is_key = Contains-first k kept; from = refl; to = refl; value = v.each 0 k f refl refl }))
      (λ e.
      let r = told_back weak kept facts (tail_values weak k kept f facts v) x e in
      record { key = r.key; is_key = Contains-later k kept r.key r.is_key; from = r.from; to = r.to; value = r.value })
      (Contains-cases (k.from, k.to, f) (told kept facts) x h)

  record HasFacts (weak : List ℕ) (edges : List (ℕ × ℕ × EdgeFacts)) (k : Key) : Type 0 where
    facts : EdgeFacts
    listed : Contains edges (k.from, k.to, facts)
    value : IsValueOf t weak k facts

  told_into : (weak : List ℕ) (kept : List Key) (facts : List EdgeFacts) → AreValues t weak kept facts → (y : Key) → Contains kept y → HasFacts weak (told kept facts) y
  told_into weak [] facts v y h = absurd (Contains-none y h)
  told_into weak (k ∷ kept) [] v y h = absurd (omega (arith, v.long))
  told_into weak (k ∷ kept) (f ∷ facts) v y h =
      let rest = told kept facts in
      let x : ℕ × ℕ × EdgeFacts = (k.from, k.to, f) in
      ⊎_elim
      (λ e. subst (λ z. HasFacts weak (x ∷ rest) z) e (record { facts = f; listed = Contains-first x rest; value = v.each 0 k f refl refl }))
      (λ e. let r = told_into weak kept facts (tail_values weak k kept f facts v) y e in record { facts = r.facts; listed = Contains-later x rest (y.from, y.to, r.facts) r.listed; value = r.value })
      (Contains-cases k kept y h)

  -- the weak links of the edges are those of the keys
  named_by : (weak : List ℕ) (x : Key) (e : Edge) → x.kind ≡ kind_of e → Says t x e → weak_link (facts_of t weak e) ≡ weak_source x
  named_by weak x feature_to_base r s = source_at x feature_to_base r
  named_by weak x named_feature r s = source_at x named_feature r
  named_by weak x (dep_colon l) r s = source_at x (dep_colon l) r
  named_by weak x (slash_full l) r s = source_at x (slash_full l) r
  named_by weak x (slash_optional l) r s = source_at x (slash_optional l) r
  named_by weak x (slash_weak k l) r s =
      let o = s.over in
      ap (λ (z : LinkFacts). slice_get z.package_links 0) o.is ∙ ap (λ (z : List ℕ). slice_get z 0) (alone x.source o.link (tables.declarations x.source o.link o.is_link)) ∙ source_at x (slash_weak k l) r
  named_by weak x (section l) r s = source_at x (section l) r

  sources : (weak : List ℕ) (kept : List Key) (facts : List EdgeFacts) → IsAll kept → AreValues t weak kept facts → filter_map (λ e. weak_link e.2) (told kept facts) ≡ weak_sources kept
  sources weak [] facts all v = refl
  sources weak (k ∷ kept) [] all v = absurd (omega (arith, v.long))
  sources weak (k ∷ kept) (f ∷ facts) all v =
      let s = stands_for t (names_differ t tables) k (all k (Contains-first k kept)) in
      let x = v.each 0 k f refl refl in
      let same : x.edge ≡ s.edge = same_rank t tables k.from k.to x.edge s.edge x.candidate s.candidate (one_rank x.edge s.edge (sym x.kind ∙ s.kind)) in
      let fact : f ≡ facts_of t weak s.edge = x.is ∙ ap (facts_of t weak) same in
      ap (λ o. cons_option o (filter_map (λ e. weak_link e.2) (told kept facts))) (ap weak_link fact ∙ named_by weak k s.edge s.kind s.says)
      ∙ ap (λ z. cons_option (weak_source k) z) (sources weak kept facts (λ y c. all y (Contains-later k kept y c)) (tail_values weak k kept f facts v))

  moved : (a b c d : ℕ) (e : Edge) → a ≡ c → b ≡ d → IsEdge t a b e → IsEdge t c d e
  moved a b c d e p q h = subst (λ z. IsEdge t c z e) q (subst (λ z. IsEdge t z b e) p h)

  pub are_built : (keys kept : List Key) → ((x : Key) → Contains keys x ↔ IsOfTables t x) → AreLeast keys kept → (weak : List (ℕ × ℕ)) (facts : List EdgeFacts)
      → map (λ e. e.0) weak ≡ first_ones (weak_sources kept) → AreGates t weak → AreValues t (map (λ e. e.0) weak) kept facts → AreBuilt t (told kept facts) weak
  are_built keys kept of least weak facts links gates values =
      let numbers = map (λ e. e.0) weak in
      let differ = names_differ t tables in
      let all : IsAll kept = λ x c. (of x).0 (least.from_keys x c) in
      let up = ascending kept facts least.ascends in
      record {
        ascends = up;
        exact = λ u w f. (
          (λ h.
              let x = told_back numbers kept facts values (u, w, f) h in
              let v = x.value in
              ∣ (v.edge, moved x.key.from x.key.to u w v.edge x.from x.to (least_is_edge t differ keys of kept least x.key x.is_key v.edge v.candidate v.kind), v.is) ∣₁),
          (λ h. ∥∥₁_elim h (edge_there-prop (told kept facts) up u w f) (λ s.
              let k = contributed t differ u w s.0 s.1.candidate in
              let served = least.each k.0 ((of k.0).1 k.1) in
              let from : served.by.from ≡ u = served.pair.0 ∙ k.2.from in
              let to : served.by.to ≡ w = served.pair.1 ∙ k.2.to in
              let i = told_into numbers kept facts values served.by served.kept_one in
              let v = i.value in
              let one : IsEdge t served.by.from served.by.to v.edge = least_is_edge t differ keys of kept least served.by served.kept_one v.edge v.candidate v.kind in
              let same : v.edge ≡ s.0 = one_edge t tables u w v.edge s.0 (moved served.by.from served.by.to u w v.edge from to one) s.1 in
              let fact : i.facts ≡ f = v.is ∙ ap (facts_of t numbers) same ∙ sym s.2 in
              let there : (served.by.from, served.by.to, i.facts) ≡ (u, w, f) = cc in
              placed (told kept facts) (served.by.from, served.by.to, i.facts) (u, w, f) there i.listed)),
        );
        links = links ∙ ap first_ones (sym (sources numbers kept facts all values));
        gates = gates;
      }

-- the ends of the edges of keys, in the order of the keys
abbrev key_ends : List Key → List EdgeFacts → List End
key_ends kept facts = map (λ p. edge_end p.0 p.1) (zip kept facts)

pub ends_long : (kept : List Key) (facts : List EdgeFacts) → length facts ≡ length kept → length facts ≡ length (key_ends kept facts)
ends_long [] [] h = refl
ends_long [] (f ∷ facts) h = absurd (omega (arith, h))
ends_long (k ∷ kept) [] h = absurd (omega (arith, h))
ends_long (k ∷ kept) (f ∷ facts) h = ap suc (ends_long kept facts (omega (arith, h)))

pub ends_told : (kept : List Key) (facts : List EdgeFacts) → length facts ≡ length kept → built_edges (key_ends kept facts) facts ≡ map (λ p. (p.0.from, p.0.to, p.1)) (zip kept facts)
ends_told [] [] h = refl
ends_told [] (f ∷ facts) h = refl
ends_told (k ∷ kept) [] h = refl
ends_told (k ∷ kept) (f ∷ facts) h = ap (λ z. (k.from, k.to, f) ∷ z) (ends_told kept facts (omega (arith, h)))

pub ends_are : (kept : List Key) (facts : List EdgeFacts) → length facts ≡ length kept → key_ends kept facts ≡ map end_of (built_edges (key_ends kept facts) facts)
ends_are [] [] h = refl
ends_are [] (f ∷ facts) h = refl
ends_are (k ∷ kept) [] h = refl
ends_are (k ∷ kept) (f ∷ facts) h = ap (λ z. edge_end k f ∷ z) (ends_are kept facts (omega (arith, h)))

pub ends_paired : (kept : List Key) (facts : List EdgeFacts) → length facts ≡ length kept → pairs_of (map end_of_key kept) ≡ pairs_of (key_ends kept facts)
ends_paired [] [] h = refl
ends_paired [] (f ∷ facts) h = refl
ends_paired (k ∷ kept) [] h = absurd (omega (arith, h))
ends_paired (k ∷ kept) (f ∷ facts) h = ap (λ z. (k.from, k.to) ∷ z) (ends_paired kept facts (omega (arith, h)))

-- the pairs of the built edges are those of the digraph
pub built_ends : (edges : List End) (facts : List EdgeFacts) → length facts ≡ length edges → ends_of (built_edges edges facts) ≡ pairs_of edges
built_ends [] [] h = refl
built_ends [] (f ∷ facts) h = refl
built_ends (e ∷ edges) [] h = absurd (omega (arith, h))
built_ends (e ∷ edges) (f ∷ facts) h = ap (λ z. (e.from, e.to) ∷ z) (built_ends edges facts (omega (arith, h)))

pub built_long : (edges : List End) (facts : List EdgeFacts) → length facts ≡ length edges → length edges ≡ length (built_edges edges facts)
built_long [] [] h = refl
built_long [] (f ∷ facts) h = refl
built_long (e ∷ edges) [] h = absurd (omega (arith, h))
built_long (e ∷ edges) (f ∷ facts) h = ap suc (built_long edges facts (omega (arith, h)))

-- an edge of the digraph, with its value
pub built_at : (edges : List End) (facts : List EdgeFacts) (k : ℕ) (e : End) (f : EdgeFacts) → slice_get edges k ≡ Some e → slice_get facts k ≡ Some f → slice_get (built_edges edges facts) k ≡ Some (e.from, e.to, f)
built_at [] facts k e f h i = cc
built_at (x ∷ edges) [] k e f h i = cc
built_at (x ∷ edges) (y ∷ facts) zero e f h i =
    let a : x ≡ e = same_some x e h in
    let b : y ≡ f = same_some y f i in
    ap (λ z. Some (z.from, z.to, y)) a ∙ ap (λ z. Some (e.from, e.to, z)) b
  where
    same_some : {X : Type 0} (x y : X) → ◌≡◌ {A = Option X} (Some x) (Some y) → x ≡ y
    same_some x y h = cc
built_at (x ∷ edges) (y ∷ facts) (suc k) e f h i = built_at edges facts k e f h i

-- the values built from the least keys; the digraph's edges are their ends
pub record IsMade (kept : List Key) (facts : List EdgeFacts) (digraph : List End) : Type 0 where
  pub long : length facts ≡ length kept
  pub ends : digraph ≡ map (λ p. edge_end p.0 p.1) (zip kept facts)

module _ (kept : List Key) (facts : List EdgeFacts) (digraph : List End) (made : IsMade kept facts digraph) where
  pub made_long : length facts ≡ length digraph
  made_long = ends_long kept facts made.long ∙ ap length (sym made.ends)

  pub made_are : digraph ≡ map end_of (built_edges digraph facts)
  made_are = subst (λ z. z ≡ map end_of (built_edges z facts)) (sym made.ends) (ends_are kept facts made.long)

  made_pairs : (t : Tables) → AreTables t → IsKept t kept → IsPairList t (pairs_of digraph)
  made_pairs t tables k =
      let pairs = pairs_kept t k.keys kept (map end_of_key kept) tables k.of_tables k.least refl in
      subst (λ z. IsPairList t z) (ends_paired kept facts made.long ∙ ap pairs_of (sym made.ends)) pairs

  pub made_built : (t : Tables) → AreTables t → IsKept t kept → (weak : List (ℕ × ℕ)) → map (λ e. e.0) weak ≡ first_ones (weak_sources kept) → AreGates t weak
      → AreValues t (map (λ e. e.0) weak) kept facts → AreBuilt t (built_edges digraph facts) weak
  made_built t tables k weak links gates values =
      let built = are_built t tables k.keys kept k.of_tables k.least weak facts links gates values in
      let same : built_edges digraph facts ≡ map (λ p. (p.0.from, p.0.to, p.1)) (zip kept facts) = ap (λ z. built_edges z facts) made.ends ∙ ends_told kept facts made.long in
      subst (λ z. AreBuilt t z weak) (sym same) built

-- the edges built from the least keys of all packages
module _ (t : Tables) (tables : AreTables t) (m : MadeEdges) (below : AreMadeBelow t (length t.packages) m) (digraph : List End) (is : digraph ≡ m.ends) where
  all_made : IsMade below.kept m.edges digraph
  all_made = record { long = (below.made.values []).long; ends = is ∙ below.made.ends }

  all_kept : IsKept t below.kept
  all_kept = kept_all t below.kept below.is_kept

  pub all_long : length m.edges ≡ length digraph
  all_long = made_long below.kept m.edges digraph all_made

  pub all_ends : digraph ≡ map end_of (built_edges digraph m.edges)
  all_ends = made_are below.kept m.edges digraph all_made

  pub all_pairs : IsPairList t (pairs_of digraph)
  all_pairs = made_pairs below.kept m.edges digraph all_made t tables all_kept

  pub all_built : AreBuilt t (built_edges digraph m.edges) m.weak.entries
  all_built = made_built below.kept m.edges digraph all_made t tables all_kept m.weak.entries below.made.links below.made.gates
      (subst (λ z. AreValues t z below.kept m.edges) (append-nil (map (λ e. e.0) m.weak.entries)) (below.made.values []))
