-- The declarations collected for a link.
use Rattle.std.proofs.Common.{◌≡◌, ℕ, zero, suc, ◌+◌, ◌<◌, ◌≤◌, List, [], ◌∷◌, ◌++◌, length, get_or, Bool, true, false, cond, Option, None, Some, map, take, refl, ap, sym, ◌∙◌, subst, arith, append_assoc, if◌then◌else◌, is_some}
use Rattle.std.specs.Prelude.{filter, flat_map, slice_get, ◌&&◌, ◌||◌}
use Rattle.std.specs.List.{list_any, cons_option}
use Rattle.std.specs.Option.{option_map, option_map_or}
use Rattle.std.proofs.lemmas.List.{map-append, append-nil, take_more}
use Rattle.std.proofs.lemmas.List.Folds.{list_any-append}
use Rattle.std.proofs.lemmas.List.Elements.{filter_map-append, filter-append}
use Rattle.guppy_packages.specs.Rows.{Text, Declared}
use Rattle.guppy_packages.specs.Tables.{LinkTable, Tables}
use Rattle.guppy_packages.specs.declared.row.DependencyKind.{DependencyKind}
use Rattle.guppy_packages.specs.declared.row.DependencyKind.TheVariants.{Normal, Build, Development}
use Rattle.feature_labels.specs.declared.link_declarations.LinkDeclarations.{LinkDeclarations}
use Rattle.feature_links.specs.declared.link.statuses.KindCollectors.{KindCollectors}
use Rattle.feature_links.specs.declared.link.from_declarations.LinkParts.{LinkParts}
use Rattle.feature_links.specs.Links.{LinkFacts, IsLink, includes, is_kind, platforms_status, platforms_of, joined_status, over, over_parts, at_places, links_at, links_named, numbered, has_declaration, half_of, half_over}
use Rattle.feature_links.specs.NamedLinks.{link_numbers}
use Rattle.feature_links.specs.inner.Collected.{HasKinds, HasParts}

-- `declarations` were added to `old`; `any` is true if there was one
pub record Gathers (old new : KindCollectors) (any : Bool) (declarations : List Declared) : Type 0 where
  pub kinds : (before : List Declared) → HasKinds old before → HasKinds new (before ++ declarations)
  pub added : any ≡ list_any (λ d. true) declarations

-- further declarations
pub gathers_more : (old mid new : KindCollectors) (any added : Bool) (xs ys zs : List Declared) → Gathers old mid any xs → ((before : List Declared) → HasKinds mid before → HasKinds new (before ++ ys))
    → added ≡ list_any (λ d. true) ys → xs ++ ys ≡ zs → Gathers old new (any || added) zs
gathers_more old mid new any added xs ys zs g more a e = record {
  kinds = λ before h. subst (HasKinds new) (append_assoc before xs ys ∙ ap (λ z. before ++ z) e) (more (before ++ xs) (g.kinds before h));
  added = ap (λ b. b || added) g.added ∙ ap (λ b. list_any (λ d. true) xs || b) a ∙ sym (list_any-append (λ d. true) xs ys) ∙ ap (list_any (λ d. true)) e;
}

pub nothing_past : {X Y : Type 0} (f : X → Y) (xs : List X) (i : ℕ) → length xs ≤ i → slice_get (map f xs) i ≡ None
nothing_past f [] i h = refl
nothing_past f (x ∷ xs) zero h = absurd (omega arith)
nothing_past f (x ∷ xs) (suc i) h = nothing_past f xs i (omega arith)

-- one more place
pub at_places_more : (ds : List Declared) (places : List ℕ) (i : ℕ) → i < length places → at_places ds (take i places) ++ at_places ds (get_or places i 0 ∷ []) ≡ at_places ds (take (i + 1) places)
at_places_more ds places i h = sym (ap (at_places ds) (take_more places i 0 h) ∙ filter_map-append (λ j. slice_get ds j) (take i places) (get_or places i 0 ∷ []))

pub some_one : {X : Type 0} (o : Option X) → is_some o ≡ list_any (λ x. true) (cons_option o [])
some_one None = refl
some_one (Some x) = refl

flat_map-append : {X Y : Type 0} (f : X → List Y) (xs ys : List X) → flat_map f (xs ++ ys) ≡ flat_map f xs ++ flat_map f ys
flat_map-append f [] ys = refl
flat_map-append f (x ∷ xs) ys = ap (λ z. f x ++ z) (flat_map-append f xs ys) ∙ sym (append_assoc (f x) (flat_map f xs) (flat_map f ys))

-- the declarations of one more package link
pub parts_more : (c d : LinkParts) (k : ℕ) (ds : List Declared) (added : Bool) (before : List (ℕ × List Declared)) → HasParts c before → ((xs : List Declared) → HasKinds c.statuses xs → HasKinds d.statuses (xs ++ ds))
    → added ≡ list_any (λ d. true) ds → d.links.items ≡ (if added then c.links.items ++ k ∷ [] else c.links.items) → HasParts d (before ++ (k, ds) ∷ [])
parts_more c d k ds added before h more a e = record {
  kinds = subst (HasKinds d.statuses) (ap (λ z. flat_map (λ x. x.1) before ++ z) (sym (append-nil ds)) ∙ sym (flat_map-append (λ x. x.1) before ((k, ds) ∷ []))) (more (flat_map (λ x. x.1) before) h.kinds);
  links = e ∙ ap (λ b. if b then c.links.items ++ k ∷ [] else c.links.items) a ∙ go (list_any (λ d. true) ds) refl;
}
  where
    some : ℕ × List Declared → Bool
    some = λ x. list_any (λ d. true) x.1

    go : (b : Bool) → list_any (λ d. true) ds ≡ b → (if b then c.links.items ++ k ∷ [] else c.links.items) ≡ map (λ x. x.0) (filter (λ x. list_any (λ d. true) x.1) (before ++ (k, ds) ∷ []))
    go true t = rw (h.links, filter-append (λ (x : ℕ × List Declared). list_any (λ d. true) x.1) before ((k, ds) ∷ []), t, map-append (λ (x : ℕ × List Declared). x.0) (filter (λ x. list_any (λ d. true) x.1) before) ((k, ds) ∷ []))
    go false t = rw (h.links, filter-append (λ (x : ℕ × List Declared). list_any (λ d. true) x.1) before ((k, ds) ∷ []), t, append-nil (filter (λ (x : ℕ × List Declared). list_any (λ d. true) x.1) before))

-- the declarations of package links that pass
abbrev pub parts_of : (Declared → Bool) → List (ℕ × LinkTable) → List (ℕ × List Declared)
parts_of passes links = map (λ l. (l.0, filter passes l.1.declarations)) links

-- the declarations added for package links, each with the number of its link
abbrev given : (LinkTable → List Declared) → List (ℕ × LinkTable) → List (ℕ × List Declared)
given g links = map (λ l. (l.0, g l.1)) links

-- one more package link
pub given_next : (t : Tables) (g : LinkTable → List Declared) (links : List ℕ) (i : ℕ) (link : LinkTable) → i < length links → IsLink t (get_or links i 0) link
    → given g (links_at t (take i links)) ++ (get_or links i 0, g link) ∷ [] ≡ given g (links_at t (take (i + 1) links))
given_next t g links i link h is =
    let k : ℕ = get_or links i 0 in
    let found : links_at t (k ∷ []) ≡ (k, link) ∷ [] = ap (λ o. cons_option (option_map (λ l. (k, l)) o) []) is in
    sym (ap (λ z. given g (links_at t z)) (take_more links i 0 h)
    ∙ ap (given g) (filter_map-append (λ n. option_map (λ l. (n, l)) (slice_get t.links n)) (take i links) (k ∷ []) ∙ ap (λ z. links_at t (take i links) ++ z) found)
    ∙ map-append (λ (l : ℕ × LinkTable). (l.0, g l.1)) (links_at t (take i links)) ((k, link) ∷ []))

both : (passes : Declared → Bool) (kind : DependencyKind) (ds : List Declared) → filter (λ d. is_kind kind d.kind) (filter passes ds) ≡ filter (λ d. passes d && is_kind kind d.kind) ds
both passes kind [] = refl
both passes kind (d ∷ ds) = go (passes d) (is_kind kind d.kind) refl (both passes kind ds)
  where
    go : (a b : Bool) → is_kind kind d.kind ≡ b → filter (λ d. is_kind kind d.kind) (filter passes ds) ≡ filter (λ d. passes d && is_kind kind d.kind) ds
        → filter (λ d. is_kind kind d.kind) (cond a (d ∷ filter passes ds) (filter passes ds)) ≡ cond (a && b) (d ∷ filter (λ d. passes d && is_kind kind d.kind) ds) (filter (λ d. passes d && is_kind kind d.kind) ds)
    go true true e more = rw e (ap (λ z. d ∷ z) more)
    go true false e more = rw e more
    go false b e more = more

platforms-append : (kind : DependencyKind) (xs ys : List Declared) → platforms_of kind (xs ++ ys) ≡ platforms_of kind xs ++ platforms_of kind ys
platforms-append kind xs ys = ap (map (λ d. d.platform)) (filter-append (λ d. is_kind kind d.kind) xs ys) ∙ map-append (λ d. d.platform) (filter (λ d. is_kind kind d.kind) xs) (filter (λ d. is_kind kind d.kind) ys)

platforms_over : (kind : DependencyKind) (passes : Declared → Bool) (links : List (ℕ × LinkTable)) → platforms_of kind (flat_map (λ x. x.1) (parts_of passes links)) ≡ flat_map (λ l. map (λ d. d.platform) (filter (λ d. passes d && is_kind kind d.kind) l.1.declarations)) links
platforms_over kind passes [] = refl
platforms_over kind passes (l ∷ links) =
    platforms-append kind (filter passes l.1.declarations) (flat_map (λ x. x.1) (parts_of passes links))
    ∙ ap (λ z. z ++ platforms_of kind (flat_map (λ x. x.1) (parts_of passes links))) (ap (map (λ d. d.platform)) (both passes kind l.1.declarations))
    ∙ ap (λ z. map (λ d. d.platform) (filter (λ d. passes d && is_kind kind d.kind) l.1.declarations) ++ z) (platforms_over kind passes links)

any_kept : (passes : Declared → Bool) (ds : List Declared) → list_any (λ d. true) (filter passes ds) ≡ list_any passes ds
any_kept passes [] = refl
any_kept passes (d ∷ ds) = go (passes d) (any_kept passes ds)
  where
    go : (b : Bool) → list_any (λ d. true) (filter passes ds) ≡ list_any passes ds → list_any (λ d. true) (cond b (d ∷ filter passes ds) (filter passes ds)) ≡ b || list_any passes ds
    go true more = refl
    go false more = more

links_kept : (passes : Declared → Bool) (links : List (ℕ × LinkTable)) → map (λ x. x.0) (filter (λ x. list_any (λ d. true) x.1) (parts_of passes links)) ≡ map (λ l. l.0) (filter (λ l. list_any passes l.1.declarations) links)
links_kept passes [] = refl
links_kept passes (l ∷ links) = go (list_any passes l.1.declarations) (any_kept passes l.1.declarations) (links_kept passes links)
  where
    go : (b : Bool) → list_any (λ d. true) (filter passes l.1.declarations) ≡ b
        → map (λ x. x.0) (filter (λ x. list_any (λ d. true) x.1) (parts_of passes links)) ≡ map (λ l. l.0) (filter (λ l. list_any passes l.1.declarations) links)
        → map (λ x. x.0) (filter (λ x. list_any (λ d. true) x.1) (parts_of passes (l ∷ links))) ≡ map (λ l. l.0) (cond b (l ∷ filter (λ l. list_any passes l.1.declarations) links) (filter (λ l. list_any passes l.1.declarations) links))
    go true e more = rw e (ap (λ z. l.0 ∷ z) more)
    go false e more = rw e more

-- the link over the declarations of package links that pass
pub over_of_parts : (which : LinkDeclarations) (passes : Declared → Bool) (links : List (ℕ × LinkTable)) → over_parts which (parts_of passes links) ≡ over which passes links
over_of_parts which passes links =
    let normal : platforms_status (platforms_of Normal (flat_map (λ x. x.1) (parts_of passes links))) ≡ joined_status Normal passes links = ap platforms_status (platforms_over Normal passes links) in
    let build : platforms_status (platforms_of Build (flat_map (λ x. x.1) (parts_of passes links))) ≡ joined_status Build passes links = ap platforms_status (platforms_over Build passes links) in
    let dev : platforms_status (platforms_of Development (flat_map (λ x. x.1) (parts_of passes links))) ≡ joined_status Development passes links = ap platforms_status (platforms_over Development passes links) in
    let kept = links_kept passes links in
    ap (λ z. record { declarations = which; normal = z; build = platforms_status (platforms_of Build (flat_map (λ x. x.1) (parts_of passes links))); dev = platforms_status (platforms_of Development (flat_map (λ x. x.1) (parts_of passes links))); package_links = map (λ x. x.0) (filter (λ x. list_any (λ d. true) x.1) (parts_of passes links)) }) normal
    ∙ ap (λ z. record { declarations = which; normal = joined_status Normal passes links; build = z; dev = platforms_status (platforms_of Development (flat_map (λ x. x.1) (parts_of passes links))); package_links = map (λ x. x.0) (filter (λ x. list_any (λ d. true) x.1) (parts_of passes links)) }) build
    ∙ ap (λ z. record { declarations = which; normal = joined_status Normal passes links; build = joined_status Build passes links; dev = z; package_links = map (λ x. x.0) (filter (λ x. list_any (λ d. true) x.1) (parts_of passes links)) }) dev
    ∙ ap (λ z. record { declarations = which; normal = joined_status Normal passes links; build = joined_status Build passes links; dev = joined_status Development passes links; package_links = z }) kept

-- a list with one number
-- a list of one element
pub the_one : {X : Type 0} (xs : List X) (d : X) → 1 ≤ length xs → length xs < 2 → xs ≡ get_or xs 0 d ∷ []
the_one [] d least most = absurd (omega arith)
the_one (x ∷ []) d least most = refl
the_one (x ∷ (y ∷ xs)) d least most = absurd (omega arith)

-- the link over a package link with exactly one declaration that passes
pub one_covered : (t : Tables) (which : LinkDeclarations) (links : List ℕ) (link : LinkTable) (d : Declared) → 1 ≤ length links → length links < 2 → IsLink t (get_or links 0 0) link
    → filter (λ d. includes which d) link.declarations ≡ d ∷ [] → over_parts which ((get_or links 0 0, d ∷ []) ∷ []) ≡ over which (λ d. includes which d) (links_at t links)
one_covered t which links link d least most is covered =
    let k : ℕ = get_or links 0 0 in
    let found : links_at t links ≡ (k, link) ∷ [] = ap (links_at t) (the_one links 0 least most) ∙ ap (λ o. cons_option (option_map (λ l. (k, l)) o) []) is in
    ap (λ z. over_parts which ((k, z) ∷ [])) (sym covered)
    ∙ over_of_parts which (λ d. includes which d) ((k, link) ∷ [])
    ∙ ap (over which (λ d. includes which d)) (sym found)

-- the link over the declaration at one place
pub one_place : (which : LinkDeclarations) (k : ℕ) (ds : List Declared) (places : List ℕ) (d : Declared) → 1 ≤ length places → length places < 2 → slice_get ds (get_or places 0 0) ≡ Some d
    → over_parts which ((k, d ∷ []) ∷ []) ≡ over_parts which ((k, at_places ds places) ∷ [])
one_place which k ds places d least most there =
    ap (λ z. over_parts which ((k, z) ∷ [])) (sym (ap (at_places ds) (the_one places 0 least most) ∙ ap (λ o. cons_option o []) there))

-- the links of a package under a name are those with their numbers
numbered_at : (t : Tables) (test : ℕ × LinkTable → Bool) (q : ℕ) (ls : List LinkTable) → ((j : ℕ) (l : LinkTable) → slice_get ls j ≡ Some l → slice_get t.links (q + j) ≡ Some l)
    → links_at t (map (λ l. l.0) (filter test (numbered q ls))) ≡ filter test (numbered q ls)
numbered_at t test q [] h = refl
numbered_at t test q (l ∷ ls) h =
    go (test (q, l)) (numbered_at t test (q + 1) ls (λ j m e. let same : q + suc j ≡ q + 1 + j = omega arith in subst (λ z. slice_get t.links z ≡ Some m) same (h (suc j) m e)))
  where
    here : slice_get t.links q ≡ Some l
    here = let same : q + 0 ≡ q = omega arith in subst (λ z. slice_get t.links z ≡ Some l) same (h 0 l refl)

    go : (b : Bool) → links_at t (map (λ l. l.0) (filter test (numbered (q + 1) ls))) ≡ filter test (numbered (q + 1) ls)
        → links_at t (map (λ l. l.0) (cond b ((q, l) ∷ filter test (numbered (q + 1) ls)) (filter test (numbered (q + 1) ls)))) ≡ cond b ((q, l) ∷ filter test (numbered (q + 1) ls)) (filter test (numbered (q + 1) ls))
    go true more = ap (λ o. cons_option (option_map (λ m. (q, m)) o) (links_at t (map (λ l. l.0) (filter test (numbered (q + 1) ls))))) here ∙ ap (λ z. (q, l) ∷ z) more
    go false more = more

pub named_at : (t : Tables) (p : ℕ) (name : Text) → links_at t (link_numbers t p name) ≡ links_named t p name
named_at t p name = numbered_at t _ 0 t.links (λ j l e. let same : j ≡ 0 + j = omega arith in subst (λ z. slice_get t.links z ≡ Some l) same e)

-- the half of a package link
pub no_half : (t : Tables) (which : LinkDeclarations) (k : ℕ) (link : LinkTable) → IsLink t k link → has_declaration which link ≡ false → None ≡ half_of t which k
no_half t which k link is e = rw (is, e)

pub some_half : (t : Tables) (which : LinkDeclarations) (k : ℕ) (link : LinkTable) (l : LinkFacts) → IsLink t k link → has_declaration which link ≡ true → l ≡ over which (λ d. includes which d) ((k, link) ∷ []) → Some l ≡ half_of t which k
some_half t which k link l is e f =
    let here : half_over which k link ≡ Some (over which (λ d. includes which d) ((k, link) ∷ [])) = ap (λ b. if b then Some (over which (λ d. includes which d) ((k, link) ∷ [])) else None) e in
    ap Some f ∙ sym (ap (λ o. option_map_or (half_over which k) o None) is ∙ here)

-- a link has one number
pub one_link : (t : Tables) (k : ℕ) (a b : LinkTable) → IsLink t k a → IsLink t k b → a ≡ b
one_link t k a b h i = same (sym h ∙ i)
  where
    same : ◌≡◌ {A = Option LinkTable} (Some a) (Some b) → a ≡ b
    same e = cc
