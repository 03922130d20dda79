-- The weak links of keys, one key after the other.
use Rattle.std.proofs.Common.{◌≡◌, ℕ, zero, suc, ◌+◌, ◌⊎◌, inl, inr, ⊎_elim, List, [], ◌∷◌, ◌++◌, length, map, Bool, true, false, not, cond, Option, Some, None, refl, sym, ap, ◌∙◌, subst, arith}
use Rattle.std.specs.Prelude.{slice_get, ◌==◌, ◌&&◌, IsTrue, Contains, filter, position}
use Rattle.std.specs.List.{cons_option, list_any, position_from}
use Rattle.std.specs.Str.{bytes_eq}
use Rattle.std.specs.Cmp.Lexicographic.{bytes_decides}
use Rattle.std.proofs.lemmas.Bool.Decides.{nat_tests}
use Rattle.std.proofs.lemmas.List.{append-nil}
use Rattle.std.proofs.lemmas.List.Elements.{filter_map-append}
use Rattle.std.proofs.lemmas.Iterator.Adapters.{position_from-zero}
use Rattle.indexmap.specs.IndexMap.{insert_entry}
use Rattle.guppy_packages.specs.Rows.{Text, Declared}
use Rattle.guppy_packages.specs.Tables.{LinkTable, Tables, AreTables, has_name}
use Rattle.guppy_packages.specs.Items.{Item, feature_item, optional_item, slash_item, item_of}
use Rattle.feature_labels.specs.Names.LabelName.{optional}
use Rattle.feature_labels.specs.declared.link_declarations.LinkDeclarations.TheVariants.{Optional}
use Rattle.feature_edges.specs.declared.candidate.CandidateKind.{CandidateKind}
use Rattle.feature_edges.specs.declared.candidate.CandidateKind.TheVariants.{FeatureToBase, NamedFeature, DepColon, SlashFull, SlashOptional, SlashWeak, Section}
use Rattle.feature_edges.specs.Nodes.{NodeAt, first_node}
use Rattle.feature_links.specs.Links.{IsLink, has_declaration}
use Rattle.feature_edges.specs.Edges.{IsGate, first_ones}
use Rattle.feature_edges.specs.inner.Keys.{rank}
use Rattle.feature_edges.specs.inner.Parts.{key, over_kind, IsOfItem, IsOfPackageAt, IsOfLinkAt, IsOfTables}
use Rattle.feature_edges.specs.inner.Weak.{weak_source_of, IsOptionalLink, AreGates, weak_source, weak_sources}
use Rattle.feature_edges.specs.declared.candidate.Key.{Key}
use Rattle.feature_edges.proofs.AddsLemmas.{place_of_element, Contains-first, Contains-later, Contains-cases, Contains-none}
use Rattle.feature_edges.proofs.LabelLemmas.{optional_label}
use Rattle.feature_edges.proofs.NodeLabels.{element_within}
use Rattle.feature_edges.proofs.PartLemmas.{list_any_there, list_any_back}
use Rattle.feature_edges.proofs.Places.{node_there}

-- the numbers with `k` at the end, unless it is among them
abbrev pub with_one : ℕ → List ℕ → List ℕ
with_one k [] = k ∷ []
with_one k (x ∷ xs) = cond (k == x) (x ∷ xs) (x ∷ with_one k xs)

same_number : (a b : ℕ) → a == b ≡ true → a ≡ b
same_number a b h = grind (arith, nat_tests)

module _ (p : ℕ → Bool) (k : ℕ) where
  filter_out : p k ≡ false → (xs : List ℕ) → filter p (with_one k xs) ≡ filter p xs
  filter_out out [] = ap (λ b. cond b (k ∷ []) []) out
  filter_out out (x ∷ xs) = go (k == x) (filter_out out xs)
    where
      go : (b : Bool) → filter p (with_one k xs) ≡ filter p xs → filter p (cond b (x ∷ xs) (x ∷ with_one k xs)) ≡ filter p (x ∷ xs)
      go true more = refl
      go false more = ap (λ z. cond (p x) (x ∷ z) z) more

  filter_in : p k ≡ true → (xs : List ℕ) → filter p (with_one k xs) ≡ with_one k (filter p xs)
  filter_in within [] = ap (λ b. cond b (k ∷ []) []) within
  filter_in within (x ∷ xs) = go (k == x) refl (filter_in within xs)
    where
      at_first : (b : Bool) → k == x ≡ b → cond b (x ∷ filter p xs) (x ∷ with_one k (filter p xs)) ≡ with_one k (x ∷ filter p xs)
      at_first b e = ap (λ z. cond z (x ∷ filter p xs) (x ∷ with_one k (filter p xs))) (sym e)

      kept : (b : Bool) → p x ≡ b → k == x ≡ false → filter p (with_one k xs) ≡ with_one k (filter p xs) → cond b (x ∷ filter p (with_one k xs)) (filter p (with_one k xs)) ≡ with_one k (cond b (x ∷ filter p xs) (filter p xs))
      kept true e f more = ap (λ z. x ∷ z) more ∙ at_first false f
      kept false e f more = more

      go : (b : Bool) → k == x ≡ b → filter p (with_one k xs) ≡ with_one k (filter p xs) → filter p (cond b (x ∷ xs) (x ∷ with_one k xs)) ≡ with_one k (filter p (x ∷ xs))
      go true e more =
          let passes : p x ≡ true = ap p (sym (same_number k x e)) ∙ within in
          ap (λ b. cond b (x ∷ filter p xs) (filter p xs)) passes ∙ at_first true e ∙ ap (λ b. with_one k (cond b (x ∷ filter p xs) (filter p xs))) (sym passes)
      go false e more = kept (p x) refl e more

-- one more number, by first appearance
pub first_ones-more : (k : ℕ) (xs : List ℕ) → first_ones (xs ++ k ∷ []) ≡ with_one k (first_ones xs)
first_ones-more k [] = refl
first_ones-more k (x ∷ xs) = ap (λ z. x ∷ filter (λ y. not (x == y)) z) (first_ones-more k xs) ∙ go (k == x) refl
  where
    turned : (a b : ℕ) (c : Bool) → b == a ≡ c → a == b ≡ c
    turned a b true h = grind (arith, nat_tests)
    turned a b false h = grind (arith, nat_tests)

    go : (b : Bool) → k == x ≡ b → x ∷ filter (λ y. not (x == y)) (with_one k (first_ones xs)) ≡ cond (k == x) (x ∷ filter (λ y. not (x == y)) (first_ones xs)) (x ∷ with_one k (filter (λ y. not (x == y)) (first_ones xs)))
    go true e =
        ap (λ z. x ∷ z) (filter_out (λ y. not (x == y)) k (ap not (turned x k true e)) (first_ones xs))
        ∙ ap (λ b. cond b (x ∷ filter (λ y. not (x == y)) (first_ones xs)) (x ∷ with_one k (filter (λ y. not (x == y)) (first_ones xs)))) (sym e)
    go false e =
        ap (λ z. x ∷ z) (filter_in (λ y. not (x == y)) k (ap not (turned x k false e)) (first_ones xs))
        ∙ ap (λ b. cond b (x ∷ filter (λ y. not (x == y)) (first_ones xs)) (x ∷ with_one k (filter (λ y. not (x == y)) (first_ones xs)))) (sym e)

-- the keys of a table after an entry is inserted
pub keys_inserted : (k v : ℕ) (entries : List (ℕ × ℕ)) → map (λ e. e.0) (insert_entry (λ a b. a == b) entries k v) ≡ with_one k (map (λ e. e.0) entries)
keys_inserted k v [] = refl
keys_inserted k v (e ∷ es) = go (k == e.0) (keys_inserted k v es)
  where
    go : (b : Bool) → map (λ e. e.0) (insert_entry (λ a b. a == b) es k v) ≡ with_one k (map (λ e. e.0) es)
        → map (λ e. e.0) (cond b ((e.0, v) ∷ es) (e ∷ insert_entry (λ a b. a == b) es k v)) ≡ cond b (e.0 ∷ map (λ e. e.0) es) (e.0 ∷ with_one k (map (λ e. e.0) es))
    go true more = refl
    go false more = ap (λ z. e.0 ∷ z) more

pub keys_grown : (k v : ℕ) (entries : List (ℕ × ℕ)) → (more : List ℕ) × (map (λ e. e.0) (insert_entry (λ a b. a == b) entries k v) ≡ map (λ e. e.0) entries ++ more)
keys_grown k v entries = let r = front (map (λ e. e.0) entries) in (r.0, keys_inserted k v entries ∙ r.1)
  where
    front : (xs : List ℕ) → (more : List ℕ) × (with_one k xs ≡ xs ++ more)
    front [] = (k ∷ [], refl)
    front (x ∷ xs) = go (k == x) (front xs)
      where
        go : (b : Bool) → (more : List ℕ) × (with_one k xs ≡ xs ++ more) → (more : List ℕ) × (cond b (x ∷ xs) (x ∷ with_one k xs) ≡ (x ∷ xs) ++ more)
        go true h = ([], ap (λ z. x ∷ z) (sym (append-nil xs)))
        go false h = (h.0, ap (λ z. x ∷ z) h.1)

pub key_there : (k v : ℕ) (entries : List (ℕ × ℕ)) → Contains (map (λ e. e.0) (insert_entry (λ a b. a == b) entries k v)) k
key_there k v entries = subst (λ z. Contains z k) (sym (keys_inserted k v entries)) (there (map (λ e. e.0) entries))
  where
    there : (xs : List ℕ) → Contains (with_one k xs) k
    there [] = Contains-first k []
    there (x ∷ xs) = go (k == x) refl (there xs)
      where
        go : (b : Bool) → k == x ≡ b → Contains (with_one k xs) k → Contains (cond b (x ∷ xs) (x ∷ with_one k xs)) k
        go true e h = subst (λ z. Contains (x ∷ xs) z) (sym (same_number k x e)) (Contains-first x xs)
        go false e h = Contains-later x (with_one k xs) k h

not_itself : (k x : ℕ) → k == x ≡ false → x ≡ k → ⊥
not_itself k x e i = grind (arith, nat_tests)

place_from : (k n : ℕ) (xs ys : List ℕ) → Contains xs k → position_from (λ j. k == j) n (xs ++ ys) ≡ position_from (λ j. k == j) n xs
place_from k n [] ys h = absurd (Contains-none k h)
place_from k n (x ∷ xs) ys h = go (k == x) refl (λ c. place_from k (n + 1) xs ys c)
  where
    go : (b : Bool) → k == x ≡ b → (Contains xs k → position_from (λ j. k == j) (n + 1) (xs ++ ys) ≡ position_from (λ j. k == j) (n + 1) xs)
        → cond b (Some n) (position_from (λ j. k == j) (n + 1) (xs ++ ys)) ≡ cond b (Some n) (position_from (λ j. k == j) (n + 1) xs)
    go true e more = refl
    go false e more = more (⊎_elim (λ i. absurd (not_itself k x e i)) (λ i. i) (Contains-cases x xs k h))

-- the place of a number is unchanged if others follow
pub place_stays : (k : ℕ) (xs ys : List ℕ) → Contains xs k → position (λ j. k == j) (xs ++ ys) ≡ position (λ j. k == j) xs
place_stays k xs ys h = position_from-zero (λ j. k == j) (xs ++ ys) ∙ place_from k 0 xs ys h ∙ sym (position_from-zero (λ j. k == j) xs)

same_entry : (P : ℕ → ℕ → Type 0) (k v j w : ℕ) → ◌≡◌ {A = Option (ℕ × ℕ)} (Some (k, v)) (Some (j, w)) → P k v → P j w
same_entry P k v j w e h = let is : ◌≡◌ {A = ℕ × ℕ} (k, v) (j, w) = cc in subst (λ z. P z.0 z.1) is h

-- each entry is a link with its gate, with one more entry too
pub gates_inserted : (t : Tables) (k v : ℕ) (entries : List (ℕ × ℕ)) → AreGates t entries → IsGate t k v → AreGates t (insert_entry (λ a b. a == b) entries k v)
gates_inserted t k v [] old new zero j w h = same_entry (IsGate t) k v j w h new
gates_inserted t k v [] old new (suc i) j w h = cc
gates_inserted t k v (e ∷ es) old new i j w h = go (k == e.0) refl (λ i h. gates_inserted t k v es (λ i. old (suc i)) new i j w h) i h
  where
    go : (b : Bool) → k == e.0 ≡ b → ((i : ℕ) → slice_get (insert_entry (λ a b. a == b) es k v) i ≡ Some (j, w) → IsGate t j w)
        → (i : ℕ) → slice_get (cond b ((e.0, v) ∷ es) (e ∷ insert_entry (λ a b. a == b) es k v)) i ≡ Some (j, w) → IsGate t j w
    go true s more zero h = same_entry (IsGate t) e.0 v j w h (subst (λ z. IsGate t z v) (same_number k e.0 s) new)
    go true s more (suc i) h = old (suc i) j w h
    go false s more zero h = old zero j w h
    go false s more (suc i) h = more i h

pub not_none : (o : Option ℕ) (n : ℕ) → o ≡ None → o ≡ Some n → ⊥
not_none o n h i = cc

-- the key of an edge that isn't weak has no weak link
pub strong_source : (x : Key) → (x.kind ≡ SlashWeak → ⊥) → weak_source x ≡ None
strong_source x h = go x.kind h
  where
    go : (k : CandidateKind) → (k ≡ SlashWeak → ⊥) → weak_source_of k x.source ≡ None
    go SlashWeak h = absurd (h refl)
    go _ h = refl

-- the key of a weak edge adds its source, and no other key adds anything
weak_next : (x : Key) → x.kind ≡ SlashWeak → weak_sources (x ∷ []) ≡ x.source ∷ []
weak_next x h = ap (λ k. cons_option (weak_source_of k x.source) []) h

strong_next : (x : Key) → (x.kind ≡ SlashWeak → ⊥) → weak_sources (x ∷ []) ≡ []
strong_next x h = ap (λ o. cons_option o []) (strong_source x h)

-- the links after a key of a weak edge
pub links_next : (done : List Key) (v : ℕ) (x : Key) (entries : List (ℕ × ℕ)) → x.kind ≡ SlashWeak → map (λ e. e.0) entries ≡ first_ones (weak_sources done)
    → map (λ e. e.0) (insert_entry (λ a b. a == b) entries x.source v) ≡ first_ones (weak_sources (done ++ x ∷ []))
links_next done v x entries weak h =
    keys_inserted x.source v entries ∙ ap (with_one x.source) h ∙ sym (first_ones-more x.source (weak_sources done))
    ∙ ap (λ z. first_ones (weak_sources done ++ z)) (sym (weak_next x weak)) ∙ ap first_ones (sym (filter_map-append weak_source done (x ∷ [])))

-- the links after another key
pub links_same : (done : List Key) (x : Key) (links : List ℕ) → (x.kind ≡ SlashWeak → ⊥) → links ≡ first_ones (weak_sources done) → links ≡ first_ones (weak_sources (done ++ x ∷ []))
links_same done x links strong h =
    h ∙ ap first_ones (sym (append-nil (weak_sources done)) ∙ ap (λ z. weak_sources done ++ z) (sym (strong_next x strong)) ∙ sym (filter_map-append weak_source done (x ∷ [])))

-- a number that is among others isn't added
with_known : (k : ℕ) (xs : List ℕ) → Contains xs k → with_one k xs ≡ xs
with_known k [] h = absurd (Contains-none k h)
with_known k (x ∷ xs) h = go (k == x) refl (λ c. with_known k xs c)
  where
    go : (b : Bool) → k == x ≡ b → (Contains xs k → with_one k xs ≡ xs) → cond b (x ∷ xs) (x ∷ with_one k xs) ≡ x ∷ xs
    go true e more = refl
    go false e more = ap (λ z. x ∷ z) (more (⊎_elim (λ i. absurd (not_itself k x e i)) (λ i. i) (Contains-cases x xs k h)))

weak_or_not : (k : CandidateKind) → (k ≡ SlashWeak) ⊎ (k ≡ SlashWeak → ⊥)
weak_or_not FeatureToBase = inr (λ e. cc)
weak_or_not NamedFeature = inr (λ e. cc)
weak_or_not DepColon = inr (λ e. cc)
weak_or_not SlashFull = inr (λ e. cc)
weak_or_not SlashOptional = inr (λ e. cc)
weak_or_not SlashWeak = inl refl
weak_or_not Section = inr (λ e. cc)

-- the links after a key whose weak link is noted
pub links_kept : (done : List Key) (x : Key) (links : List ℕ) → (x.kind ≡ SlashWeak → Contains links x.source) → links ≡ first_ones (weak_sources done) → links ≡ first_ones (weak_sources (done ++ x ∷ []))
links_kept done x links noted h = ⊎_elim
    (λ weak.
    sym (with_known x.source links (noted weak)) ∙ ap (with_one x.source) h ∙ sym (first_ones-more x.source (weak_sources done))
    ∙ ap (λ z. first_ones (weak_sources done ++ z)) (sym (weak_next x weak)) ∙ ap first_ones (sym (filter_map-append weak_source done (x ∷ []))))
    (λ strong. links_same done x links strong h)
    (weak_or_not x.kind)

joined : (a b : Bool) → a ≡ true → b ≡ true → a && b ≡ true
joined true b h i = i
joined false b h i = cc

same_test : (n : ℕ) → n == n ≡ true
same_test n = grind (arith, nat_tests)

-- a link with an optional declaration has the node of its name in its source
pub optional_node : (t : Tables) → AreTables t → (k : ℕ) (link : LinkTable) → IsLink t k link → IsTrue (has_declaration Optional link) → (n : ℕ) × NodeAt t n link.from (optional link.name)
optional_node t tables k link is o =
    let table = element_within t.packages link.from (tables.ends k link is).0 in
    let test : LinkTable → Bool = λ l. (link.from == l.from) && bytes_eq link.name l.name && list_any (λ d. d.optional) l.declarations in
    let passes : IsTrue (test link) = joined ((link.from == link.from) && bytes_eq link.name link.name) (list_any (λ d. d.optional) link.declarations) (joined (link.from == link.from) (bytes_eq link.name link.name) (same_test link.from) ((bytes_decides link.name link.name).1 refl)) o in
    let has : IsTrue (has_name link.name table.0.optional_names) = tables.optional link.from table.0 link.name table.1 ∙ list_any_there test t.links k link is passes in
    let found = list_any_back (bytes_eq link.name) table.0.optional_names has in
    let same : found.element ≡ link.name = sym ((bytes_decides link.name found.element).0 found.passes) in
    let at : slice_get table.0.optional_names found.place ≡ Some link.name = found.there ∙ ap Some same in
    (first_node t link.from + suc (length table.0.features + found.place), node_there t link.from (suc (length table.0.features + found.place)) table.0 (optional link.name) table.1 (optional_label table.0 found.place link.name at))

-- a link with this optional declaration has one
pub declared_optional : (t : Tables) (k : ℕ) (link : LinkTable) (d : Declared) → IsLink t k link → Contains link.declarations d → d.optional ≡ true → IsOptionalLink t k
declared_optional t k link d is there o =
    let at = place_of_element link.declarations d there in
    record { link = link; is_link = is; is_optional = list_any_there (λ d. d.optional) link.declarations at.0 d at.1 o }

weak_over : (b : Bool) → cond b SlashWeak SlashFull ≡ SlashWeak → b ≡ true
weak_over true h = refl
weak_over false h = absurd (omega (arith, ap rank h))

second_true : (a b : Bool) → a && b ≡ true → b ≡ true
second_true true b h = h
second_true false b h = cc

module _ (t : Tables) (x : Key) (is_weak : x.kind ≡ SlashWeak) where
  other_kind : (u w : ℕ) (kind : CandidateKind) (source place : ℕ) → x ≡ key u w kind source place → (rank kind ≡ rank SlashWeak → ⊥) → IsOptionalLink t x.source
  other_kind u w kind source place e other = absurd (other (ap rank (sym (ap (λ z. z.kind) e) ∙ is_weak)))

  of_over : (u w k : ℕ) (weak : Bool) (link : LinkTable) → IsLink t k link → x ≡ key u w (over_kind weak link) k 0 → IsOptionalLink t x.source
  of_over u w k weak link is e =
      let both : weak && has_declaration Optional link ≡ true = weak_over (weak && has_declaration Optional link) (sym (ap (λ z. z.kind) e) ∙ is_weak) in
      subst (λ z. IsOptionalLink t z) (sym (ap (λ z. z.source) e)) (record { link = link; is_link = is; is_optional = second_true weak (has_declaration Optional link) both })

  of_item : (u p : ℕ) (f : Text) (item : Item) → IsOfItem t u p f item x → IsOptionalLink t x.source
  of_item u p f (feature_item g) h = other_kind u h.1.0 NamedFeature 0 0 h.1.2 (λ i. omega arith)
  of_item u p f (optional_item d) h = other_kind u h.0 DepColon 0 0 h.2 (λ i. omega arith)
  of_item u p f (slash_item d g weak) h = ⊎_elim
      (λ o. of_over u o.1.4.0 o.0 weak o.1.0 o.1.1 o.1.4.2)
      (λ o. ⊎_elim
      (λ i. other_kind u i.0 SlashOptional 0 0 i.2 (λ j. omega arith))
      (λ i. other_kind u i.2.0 SlashOptional 0 0 i.2.2 (λ j. omega arith))
      o.1)
      h

  of_package : (p : ℕ) → IsOfPackageAt t p x → IsOptionalLink t x.source
  of_package p h = ⊎_elim
      (λ b. other_kind (first_node t p + b.0) (first_node t p) FeatureToBase 0 0 b.2.1 (λ i. omega arith))
      (λ b. of_item (first_node t p + 1 + b.0) p b.1.0.name (item_of b.1.2.1.0) b.1.2.1.2)
      h.2

  of_link : (k : ℕ) → IsOfLinkAt t k x → IsOptionalLink t x.source
  of_link k h =
      let d = h.2.1 in
      let to = d.2.2.2 in
      other_kind d.2.0 to.0 Section k h.2.0 to.2 (λ i. omega arith)

  -- the key of a weak edge names an optional link
  pub weak_is_optional : IsOfTables t x → IsOptionalLink t x.source
  weak_is_optional h = ⊎_elim (λ i. of_package i.0 i.1) (λ i. of_link i.0 i.1) h
