-- The rules that the tables of rows without a fault satisfy.
use Rattle.std.proofs.Common.{get_or}
use Rattle.std.proofs.Common.{◌≡◌, ◌⊎◌, inl, inr, ℕ, zero, suc, ◌+◌, ◌-◌, ◌<◌, ◌≤◌, List, [], ◌∷◌, ◌++◌, Bool, true, false, cond, ◌||◌, Option, None, Some, Ok, Err, map, length, refl, ap, sym, ◌∙◌, subst, arith, append_assoc, if◌then◌else◌}
use Rattle.std.specs.Prelude.{nat_lt, position, slice_get, ◌==◌, ◌&&◌}
use Rattle.std.specs.List.{cons_option, list_any, position_or_len}
use Rattle.std.specs.Option.{option_map, option_map_or}
use Rattle.std.specs.List.Sorted.{IsNonDecreasingBy}
use Rattle.std.specs.Str.{bytes_eq}
use Rattle.std.specs.Cmp.Lexicographic.{bytes_decides}
use Rattle.std.proofs.lemmas.Bool.{eq-eqb, eqb-true, ne_eqb}
use borrow.Author.Tests.{ltb-true}
use Rattle.std.proofs.lemmas.List.{append-nil, length-append, map-append}
use Rattle.guppy_packages.specs.Rows.{Text, Declared, RowText, a_package, a_feature, a_dep}
use Rattle.guppy_packages.specs.Tables.{AreTables, has_feature, has_name, has_optional_link, LinkTable, package_place, PackageTable, pair_of}
use Rattle.guppy_packages.specs.Graph.{dependencies_of, Dependency, faults_by, firsts, has_other_name, is_joined, link_fault, link_of, links_of, owner, packages_of, row_fault}
use Rattle.guppy_packages.specs.inner.Steps.{add_link, add_name, joins, Outcome, result_map}
use Rattle.guppy_packages.specs.declared.row_error.RowFault.{RowFault}
use Rattle.guppy_packages.specs.declared.row_error.RowFault.TheVariants.{NoPackage, DuplicatePackage, DuplicateFeature, UnknownTarget, OtherName}
use Rattle.guppy_packages.specs.declared.row_error.RowError.{RowError}
use Rattle.guppy_packages.proofs.Apart.{AllIn, AllIn-at, AllIn-push, AllIn-weaker, AreApart-map, AreApart-no_repeats, AreApart-push, list_any-push}
use Rattle.guppy_packages.proofs.EachAfter.{after, each_after-is}
use Rattle.guppy_packages.proofs.Firsts.{AreApart, AreApart-firsts}
use Rattle.guppy_packages.proofs.Joined.{second_step-is}
use Rattle.guppy_packages.proofs.Lists.{list_any-map}
use Rattle.guppy_packages.proofs.Passes.{error_at}
use Rattle.guppy_packages.proofs.Sections.{grown, map_last, outcome, packages_of-own, packages_of-package, with_rows}

-- the links, each in order

-- a property of each link that an appended declaration preserves
add_link-keeps : (Q : LinkTable → Type 0) (from to : ℕ) (name : Text) (d : Declared) → ((l : LinkTable) → Q l → Q (record l { declarations = l.declarations ++ d ∷ [] }))
    → Q (record { from = from; to = to; name = name; declarations = d ∷ [] }) → (ls new : List LinkTable) → AllIn Q ls → add_link from to name d ls ≡ Ok new → AllIn Q new
add_link-keeps Q from to name d keep begin [] new a h =
    let same : record { from = from; to = to; name = name; declarations = d ∷ [] } ∷ [] ≡ new = cc in
    subst (AllIn Q) same (begin, tt)
add_link-keeps Q from to name d keep begin (l ∷ ls) new a h = go (joins from to l) (bytes_eq name l.name) (add_link from to name d ls) refl h (λ more e. add_link-keeps Q from to name d keep begin ls more a.1 e)
  where
    go : (b n : Bool) (o : Outcome (List LinkTable)) → add_link from to name d ls ≡ o
        → (if b then result_map (λ joined. joined ∷ ls) (if n then Ok (record l { declarations = l.declarations ++ d ∷ [] }) else Err OtherName) else result_map (λ rest. l ∷ rest) o) ≡ Ok new
        → ((more : List LinkTable) → add_link from to name d ls ≡ Ok more → AllIn Q more) → AllIn Q new
    go true true o e h more =
        let same : record l { declarations = l.declarations ++ d ∷ [] } ∷ ls ≡ new = cc in
        subst (AllIn Q) same (keep l a.0, a.1)
    go true false o e h more = cc
    go false n (Ok rest) e h more =
        let same : l ∷ rest ≡ new = cc in
        subst (AllIn Q) same (a.0, more rest e)
    go false n (Err f) e h more = cc

or_assoc : (a b c : Bool) → a || (b || c) ≡ (a || b) || c
or_assoc true b c = refl
or_assoc false b c = refl

regroup : (a b c o r : Bool) → (a && b && (c || o)) || r ≡ ((a && b && c) || r) || (a && b && o)
regroup false b c o true = refl
regroup false b c o false = refl
regroup true false c o true = refl
regroup true false c o false = refl
regroup true true true o r = refl
regroup true true false true true = refl
regroup true true false true false = refl
regroup true true false false true = refl
regroup true true false false false = refl

alone : (a b o : Bool) → (a && b && (o || false)) || false ≡ a && b && o
alone false b o = refl
alone true false o = refl
alone true true true = refl
alone true true false = refl

ends_of : (from to : ℕ) (l : LinkTable) → joins from to l ≡ true → from ≡ l.from
ends_of from to l h = go (from == l.from) refl h
  where
    go : (b : Bool) → (from == l.from) ≡ b → (b && (to == l.to)) ≡ true → from ≡ l.from
    go true e h = eqb-true from l.from e
    go false e h = cc

-- the optional names of a package's links, with one more declaration
optional-add_link : (i : ℕ) (n : Text) (from to : ℕ) (name : Text) (d : Declared) (ls new : List LinkTable) → add_link from to name d ls ≡ Ok new
    → has_optional_link i n new ≡ has_optional_link i n ls || ((i == from) && bytes_eq n name && d.optional)
optional-add_link i n from to name d [] new h =
    let same : new ≡ record { from = from; to = to; name = name; declarations = d ∷ [] } ∷ [] = cc in
    rw same (alone (i == from) (bytes_eq n name) d.optional)
optional-add_link i n from to name d (l ∷ ls) new h = go (joins from to l) refl (bytes_eq name l.name) refl (add_link from to name d ls) refl h (λ more e. optional-add_link i n from to name d ls more e)
  where
    here : Bool
    here = (i == l.from) && bytes_eq n l.name && list_any (λ e. e.optional) l.declarations

    go : (b : Bool) → joins from to l ≡ b → (m : Bool) → bytes_eq name l.name ≡ m → (o : Outcome (List LinkTable)) → add_link from to name d ls ≡ o
        → (if b then result_map (λ joined. joined ∷ ls) (if m then Ok (record l { declarations = l.declarations ++ d ∷ [] }) else Err OtherName) else result_map (λ rest. l ∷ rest) o) ≡ Ok new
        → ((more : List LinkTable) → add_link from to name d ls ≡ Ok more → has_optional_link i n more ≡ has_optional_link i n ls || ((i == from) && bytes_eq n name && d.optional))
        → has_optional_link i n new ≡ ((i == l.from) && bytes_eq n l.name && list_any (λ e. e.optional) l.declarations || has_optional_link i n ls) || ((i == from) && bytes_eq n name && d.optional)
    go true e true m o f h more =
        let same : new ≡ record l { declarations = l.declarations ++ d ∷ [] } ∷ ls = cc in
        let leaves : from ≡ l.from = ends_of from to l e in
        let named : name ≡ l.name = (bytes_decides name l.name).0 m in
        rw (same, leaves, named, list_any-push (λ e. e.optional) l.declarations d) (regroup (i == l.from) (bytes_eq n l.name) (list_any (λ e. e.optional) l.declarations) d.optional (has_optional_link i n ls))
    go true e false m o f h more = cc
    go false e m k (Ok rest) f h more =
        let same : new ≡ l ∷ rest = cc in
        rw (same, more rest f) (or_assoc ((i == l.from) && bytes_eq n l.name && list_any (λ e. e.optional) l.declarations) (has_optional_link i n ls) ((i == from) && bytes_eq n name && d.optional))
    go false e m k (Err fault) f h more = cc

-- the packages

-- an item of a list whose last item is changed
at_map_last : {X : Type 0} (f : X → X) (xs : List X) (i : ℕ) (y : X) → slice_get (map_last f xs) i ≡ Some y
    → (x : X) × (slice_get xs i ≡ Some x) × (((i + 1 ≡ length xs) × (y ≡ f x)) ⊎ ((i + 1 < length xs) × (y ≡ x)))
at_map_last f [] i y h = cc
at_map_last f (x ∷ []) zero y h =
    let same : y ≡ f x = cc in
    (x, refl, inl (refl, same))
at_map_last f (x ∷ []) (suc i) y h = cc
at_map_last f (x ∷ z ∷ zs) zero y h =
    let same : y ≡ x = cc in
    (x, refl, inr (omega arith, same))
at_map_last f (x ∷ z ∷ zs) (suc i) y h =
    let more = at_map_last f (z ∷ zs) i y h in
    (more.0, more.1, elim more.2 [ inl p ↦ inl (omega arith, p.1) | inr p ↦ inr (omega arith, p.1) ])

at_push : {X : Type 0} (xs : List X) (x : X) (i : ℕ) (y : X) → slice_get (xs ++ x ∷ []) i ≡ Some y → (slice_get xs i ≡ Some y) ⊎ ((i ≡ length xs) × (y ≡ x))
at_push [] x zero y h =
    let same : y ≡ x = cc in
    inr (refl, same)
at_push [] x (suc i) y h = cc
at_push (z ∷ zs) x zero y h = inl h
at_push (z ∷ zs) x (suc i) y h = elim (at_push zs x i y h) [ inl p ↦ inl p | inr p ↦ inr (ap suc p.0, p.1) ]

AllIn-map_last : {X : Type 0} (P : X → Type 0) (f : X → X) (xs : List X) → AllIn P xs → ((x : X) → slice_get xs (length xs - 1) ≡ Some x → P x → P (f x)) → AllIn P (map_last f xs)
AllIn-map_last P f [] a h = tt
AllIn-map_last P f (x ∷ []) a h = (h x refl a.0, tt)
AllIn-map_last {X = X} P f (x ∷ y ∷ ys) a h = (a.0, AllIn-map_last P f (y ∷ ys) a.1 (λ z e. h z (last z e)))
  where
    last : (z : X) → slice_get (y ∷ ys) (length (y ∷ ys) - 1) ≡ Some z → slice_get (x ∷ y ∷ ys) (length (x ∷ y ∷ ys) - 1) ≡ Some z
    last z e =
        let n : length (x ∷ y ∷ ys) - 1 ≡ suc (length (y ∷ ys) - 1) = omega arith in
        rw n e

map-map_last : {X Y : Type 0} (g : X → Y) (f : X → X) (xs : List X) → ((x : X) → g (f x) ≡ g x) → map g (map_last f xs) ≡ map g xs
map-map_last g f [] same = refl
map-map_last g f (x ∷ []) same = ap (λ y. y ∷ []) (same x)
map-map_last g f (x ∷ y ∷ ys) same = ap (λ l. g x ∷ l) (map-map_last g f (y ∷ ys) same)

pub length-map_last : {X : Type 0} (f : X → X) (xs : List X) → length (map_last f xs) ≡ length xs
length-map_last f [] = refl
length-map_last f (x ∷ []) = refl
length-map_last f (x ∷ y ∷ ys) = ap suc (length-map_last f (y ∷ ys))

-- a link leads from one of m packages to one of n, with a declaration
record HasEnds (m n : ℕ) (l : LinkTable) : Type 0 where
  pub from : l.from < m
  pub to : l.to < n
  pub declared : 0 < length l.declarations

-- each link leaves the same package as the one before it, or a later one
abbrev AreOrdered : List LinkTable → Type 0
AreOrdered [] = Unit {0}
AreOrdered (l ∷ ls) = AllIn (λ m. l.from ≤ m.from) ls × AreOrdered ls

-- the rules for the packages and links so far, with `n` packages in all
record Fair (n : ℕ) (ps : List PackageTable) (ls : List LinkTable) : Type 0 where
  pub ids : AreApart bytes_eq (map (λ p. p.id) ps)
  pub features : AllIn (λ p. AreApart bytes_eq (map (λ f. f.name) p.features)) ps
  pub links : AllIn (HasEnds (length ps) n) ls
  pub ordered : AreOrdered ls
  pub optional : (i : ℕ) (p : PackageTable) (name : Text) → slice_get ps i ≡ Some p → has_name name p.optional_names ≡ has_optional_link i name ls

more_packages : (m k n : ℕ) (ls : List LinkTable) → m ≤ k → AllIn (HasEnds m n) ls → AllIn (HasEnds k n) ls
more_packages m k n ls h a = AllIn-weaker (HasEnds m n) (HasEnds k n) ls (λ l e. record { from = le_trans e; to = e.to; declared = e.declared }) a
  where
    le_trans : {l : LinkTable} → HasEnds m n l → l.from < k
    le_trans e = omega (arith, e.from)

-- no link leaves a package whose row is not read
no_link : (m n : ℕ) (name : Text) (ls : List LinkTable) → AllIn (HasEnds m n) ls → has_optional_link m name ls ≡ false
no_link m n name [] a = refl
no_link m n name (l ∷ ls) a =
    let other : (m == l.from) ≡ false = ne_eqb m l.from (λ e. absurd (omega (arith, a.0.from))) in
    rw other (no_link m n name ls a.1)

add_link-ordered : (from to : ℕ) (name : Text) (d : Declared) (ls new : List LinkTable) → AllIn (λ l. l.from ≤ from) ls → AreOrdered ls → add_link from to name d ls ≡ Ok new → AreOrdered new
add_link-ordered from to name d [] new a o h =
    let same : record { from = from; to = to; name = name; declarations = d ∷ [] } ∷ [] ≡ new = cc in
    subst AreOrdered same (tt, tt)
add_link-ordered from to name d (l ∷ ls) new a o h = go (joins from to l) (bytes_eq name l.name) (add_link from to name d ls) refl h (λ more e. add_link-ordered from to name d ls more a.1 o.1 e)
  where
    go : (b n : Bool) (r : Outcome (List LinkTable)) → add_link from to name d ls ≡ r
        → (if b then result_map (λ joined. joined ∷ ls) (if n then Ok (record l { declarations = l.declarations ++ d ∷ [] }) else Err OtherName) else result_map (λ rest. l ∷ rest) r) ≡ Ok new
        → ((more : List LinkTable) → add_link from to name d ls ≡ Ok more → AreOrdered more) → AreOrdered new
    go true true r e h more =
        let same : record l { declarations = l.declarations ++ d ∷ [] } ∷ ls ≡ new = cc in
        subst AreOrdered same o
    go true false r e h more = cc
    go false n (Ok rest) e h more =
        let same : l ∷ rest ≡ new = cc in
        subst AreOrdered same (add_link-keeps (λ m. l.from ≤ m.from) from to name d (λ m p. p) a.0 ls rest o.0 e, more rest e)
    go false n (Err f) e h more = cc

-- the same, by indices
ordered_by : (ls : List LinkTable) → AreOrdered ls → IsNonDecreasingBy (λ l. l.from) ls
ordered_by [] o i j d le h = absurd (omega arith)
ordered_by (l ∷ ls) o zero zero d le h = omega arith
ordered_by (l ∷ ls) o zero (suc j) d le h = All_get ls o.0 j d (omega arith)
  where
    All_get : (ms : List LinkTable) → AllIn (λ m. l.from ≤ m.from) ms → (j : ℕ) (d : LinkTable) → j < length ms → l.from ≤ (get_or ms j d).from
    All_get [] a j d h = absurd (omega arith)
    All_get (m ∷ ms) a zero d h = a.0
    All_get (m ∷ ms) a (suc j) d h = All_get ms a.1 j d (omega arith)
ordered_by (l ∷ ls) o (suc i) zero d le h = absurd (omega arith)
ordered_by (l ∷ ls) o (suc i) (suc j) d le h = ordered_by ls o.1 i j d (omega arith) (omega arith)

fair_package : (n : ℕ) (ps : List PackageTable) (ls : List LinkTable) (id : Text) (w : Bool) → Fair n ps ls → list_any (λ p. bytes_eq id p.id) ps ≡ false → Fair n (ps ++ with_rows id w [] ∷ []) ls
fair_package n ps ls id w fair new = record {
  ids = rw (map-append (λ p. p.id) ps (with_rows id w [] ∷ [])) (AreApart-push bytes_eq (map (λ p. p.id) ps) id fair.ids (list_any-map (λ p. p.id) (bytes_eq id) ps ∙ new));
  features = AllIn-push (λ p. AreApart bytes_eq (map (λ f. f.name) p.features)) ps (with_rows id w []) fair.features tt;
  links = more_packages (length ps) (length (ps ++ with_rows id w [] ∷ [])) n ls (simp length-append (omega arith)) fair.links;
  ordered = fair.ordered;
  optional = λ i p name h. elim (at_push ps (with_rows id w []) i p h) [
    | inl e ↦ fair.optional i p name e
    | inr e ↦ rw (e.0, e.1) (sym (no_link (length ps) n name ls fair.links))
  ];
}

fair_feature : (n : ℕ) (ps : List PackageTable) (ls : List LinkTable) (name : Text) (items : List Text) → Fair n ps ls
    → ((p : PackageTable) → slice_get ps (length ps - 1) ≡ Some p → has_feature name p.features ≡ false) → Fair n (map_last (grown (a_feature name items)) ps) ls
fair_feature n ps ls name items fair new = record {
  ids = rw (map-map_last (λ p. p.id) (grown (a_feature name items)) ps (λ p. refl)) fair.ids;
  features = AllIn-map_last (λ p. AreApart bytes_eq (map (λ f. f.name) p.features)) (grown (a_feature name items)) ps fair.features
      (λ p at a. rw (map-append (λ f. f.name) p.features (record { name = name; items = items } ∷ [])) (AreApart-push bytes_eq (map (λ f. f.name) p.features) name a (list_any-map (λ f. f.name) (bytes_eq name) p.features ∙ new p at)));
  links = more_packages (length ps) (length (map_last (grown (a_feature name items)) ps)) n ls (rw (length-map_last (grown (a_feature name items)) ps) (omega arith)) fair.links;
  ordered = fair.ordered;
  optional = λ i p m h.
      let at = at_map_last (grown (a_feature name items)) ps i p h in
      let same : p.optional_names ≡ at.0.optional_names = elim at.2 [ inl e ↦ ap (λ q. q.optional_names) e.1 | inr e ↦ ap (λ q. q.optional_names) e.1 ] in
      rw same (fair.optional i at.0 m at.1);
}

or_false : (b : Bool) → b ≡ b || false
or_false true = refl
or_false false = refl

-- a name among those of a package, after a Dep row
names_of : (m name : Text) (optional : Bool) (p : PackageTable) → has_name m (add_name name optional p).optional_names ≡ has_name m p.optional_names || (bytes_eq m name && optional)
names_of m name true p = go (has_name name p.optional_names) refl
  where
    go : (b : Bool) → has_name name p.optional_names ≡ b → has_name m (if b then p.optional_names else p.optional_names ++ name ∷ []) ≡ has_name m p.optional_names || (bytes_eq m name && true)
    go false e = rw (list_any-push (bytes_eq m) p.optional_names name) (ap (λ b. has_name m p.optional_names || b) (and_true (bytes_eq m name)))
      where
        and_true : (b : Bool) → b ≡ b && true
        and_true true = refl
        and_true false = refl
    go true e = known (bytes_eq m name) refl
      where
        known : (b : Bool) → bytes_eq m name ≡ b → has_name m p.optional_names ≡ has_name m p.optional_names || (b && true)
        known true f =
            let same : m ≡ name = (bytes_decides m name).0 f in
            rw (same, e)
        known false f = or_false (has_name m p.optional_names)
names_of m name false p = or_false (has_name m p.optional_names) ∙ ap (λ b. has_name m p.optional_names || b) (and_false (bytes_eq m name))
  where
    and_false : (b : Bool) → false ≡ b && false
    and_false true = refl
    and_false false = refl

fair_dep : (n : ℕ) (ps : List PackageTable) (ls new : List LinkTable) (to : ℕ) (name target : Text) (d : Declared) → Fair n ps ls → 0 < length ps → to < n
    → add_link (length ps - 1) to name d ls ≡ Ok new → Fair n (map_last (grown (a_dep name target d)) ps) new
fair_dep n ps ls new to name target d fair some within added = record {
  ids = rw (map-map_last (λ p. p.id) (grown (a_dep name target d)) ps (kept d.optional)) fair.ids;
  features = AllIn-map_last (λ p. AreApart bytes_eq (map (λ f. f.name) p.features)) (grown (a_dep name target d)) ps fair.features (λ p at a. features_kept d.optional p a);
  links = add_link-keeps (HasEnds (length (map_last (grown (a_dep name target d)) ps)) n) (length ps - 1) to name d longer begins ls new (more_packages (length ps) (length (map_last (grown (a_dep name target d)) ps)) n ls (rw (length-map_last (grown (a_dep name target d)) ps) (omega arith)) fair.links) added;
  ordered = add_link-ordered (length ps - 1) to name d ls new (AllIn-weaker (HasEnds (length ps) n) (λ l. l.from ≤ length ps - 1) ls (λ l e. before_last l e.from) fair.links) fair.ordered added;
  optional = λ i p m h. optional i p m (at_map_last (grown (a_dep name target d)) ps i p h);
}
  where
    before_last : (l : LinkTable) → l.from < length ps → l.from ≤ length ps - 1
    before_last l h = omega arith

    kept : (b : Bool) (p : PackageTable) → (add_name name b p).id ≡ p.id
    kept true p = refl
    kept false p = refl

    features_kept : (b : Bool) (p : PackageTable) → AreApart bytes_eq (map (λ f. f.name) p.features) → AreApart bytes_eq (map (λ f. f.name) (add_name name b p).features)
    features_kept true p a = a
    features_kept false p a = a

    longer : (l : LinkTable) → HasEnds (length (map_last (grown (a_dep name target d)) ps)) n l → HasEnds (length (map_last (grown (a_dep name target d)) ps)) n (record l { declarations = l.declarations ++ d ∷ [] })
    longer l e = record { from = e.from; to = e.to; declared = simp length-append (omega arith) }

    begins : HasEnds (length (map_last (grown (a_dep name target d)) ps)) n (record { from = length ps - 1; to = to; name = name; declarations = d ∷ [] })
    begins = record { from = rw (length-map_last (grown (a_dep name target d)) ps) (omega arith); to = within; declared = omega arith }

    optional : (i : ℕ) (p : PackageTable) (m : Text)
        → (q : PackageTable) × (slice_get ps i ≡ Some q) × (((i + 1 ≡ length ps) × (p ≡ add_name name d.optional q)) ⊎ ((i + 1 < length ps) × (p ≡ q)))
        → has_name m p.optional_names ≡ has_optional_link i m new
    optional i p m (q, at, inl e) =
        let here : (i == (length ps - 1)) ≡ true = eq-eqb i (length ps - 1) (omega arith) in
        rw (e.1, names_of m name d.optional q, fair.optional i q m at, optional-add_link i m (length ps - 1) to name d ls new added, here)
    optional i p m (q, at, inr e) =
        let other : (i == (length ps - 1)) ≡ false = ne_eqb i (length ps - 1) (λ s. absurd (omega arith)) in
        rw (e.1, fair.optional i q m at, optional-add_link i m (length ps - 1) to name d ls new added, other) (or_false (has_optional_link i m ls))

within_list : {X : Type 0} (p : X → Bool) (xs : List X) (i : ℕ) → position p xs ≡ Some i → i < length xs
within_list p xs i h = go (nat_lt (position_or_len p xs) (length xs)) refl h
  where
    go : (b : Bool) → nat_lt (position_or_len p xs) (length xs) ≡ b → cond b (Some (position_or_len p xs)) None ≡ Some i → i < length xs
    go true e h =
        let same : position_or_len p xs ≡ i = cc in
        rw (← same) (ltb-true (position_or_len p xs) (length xs) e)
    go false e h = cc

some_length : {X : Type 0} (xs : List X) (i : ℕ) (x : X) → slice_get xs i ≡ Some x → 0 < length xs
some_length [] i x h = cc
some_length (y ∷ ys) i x h = omega arith

module _ (packages : List PackageTable) where
  abbrev links_at : List RowText → List LinkTable
  links_at before = links_of (dependencies_of packages before)

  abbrev IsFair : List RowText → Type 0
  IsFair before = Fair (length packages) (packages_of before) (links_at before)

  same_links : (x y : List LinkTable) → outcome None x ≡ outcome None y → y ≡ x
  same_links x y h = cc

  fair_step : (before : List RowText) (row : RowText) → IsFair before → row_fault before row ≡ None → link_fault packages before row ≡ None → IsFair (before ++ row ∷ [])
  fair_step before (a_package id w) fair ok linked =
      let kept : links_at (before ++ a_package id w ∷ []) ≡ links_at before = same_links _ _ (second_step-is packages before (a_package id w)) in
      rw (packages_of-package before id w, kept) (fair_package (length packages) (packages_of before) (links_at before) id w fair (go (list_any (λ p. bytes_eq id p.id) (packages_of before)) ok))
    where
      go : (b : Bool) → (if b then Some DuplicatePackage else None) ≡ None → b ≡ false
      go true h = cc
      go false h = refl
  fair_step before (a_feature name items) fair ok linked =
      let kept : links_at (before ++ a_feature name items ∷ []) ≡ links_at before = same_links _ _ (second_step-is packages before (a_feature name items)) in
      rw (packages_of-own before (a_feature name items) refl, kept) (fair_feature (length packages) (packages_of before) (links_at before) name items fair (λ p at. go (has_feature name p.features) (sym (ap (λ o. option_map_or (λ p. if has_feature name p.features then Some DuplicateFeature else None) o (Some NoPackage)) at) ∙ ok)))
    where
      go : (b : Bool) → (if b then Some DuplicateFeature else None) ≡ None → b ≡ false
      go true h = cc
      go false h = refl
  fair_step before (a_dep name target d) fair ok linked = go (slice_get (packages_of before) (owner before)) refl ok (package_place target packages) refl linked (second_step-is packages before (a_dep name target d))
    where
      go : (o : Option PackageTable) → slice_get (packages_of before) (owner before) ≡ o → option_map_or (λ p. None) o (Some NoPackage) ≡ None
          → (t : Option ℕ) → package_place target packages ≡ t
          → option_map_or (λ to. if has_other_name (owner before) to name (links_at before) then Some OtherName else None) t (Some UnknownTarget) ≡ None
          → option_map_or (λ to. add_link (owner before) to name d (links_at before)) t (Err UnknownTarget) ≡ outcome (option_map_or (λ to. if has_other_name (owner before) to name (links_at before) then Some OtherName else None) t (Some UnknownTarget)) (links_at (before ++ a_dep name target d ∷ []))
          → IsFair (before ++ a_dep name target d ∷ [])
      go None e ok t f linked step = cc
      go (Some p) e ok None f linked step = cc
      go (Some p) e ok (Some to) f linked step =
          rw (packages_of-own before (a_dep name target d) refl)
          (fair_dep (length packages) (packages_of before) (links_at before) (links_at (before ++ a_dep name target d ∷ [])) to name target d fair (some_length (packages_of before) (owner before) p e) (within_list (λ p. bytes_eq target p.id) packages to f) (step ∙ ap (λ o. outcome o (links_at (before ++ a_dep name target d ∷ []))) linked))

  -- no fault among rows
  none_here : (f : List RowText → RowText → Option RowFault) (before : List RowText) (row : RowText) (rest : List RowError) → cons_option (error_at f before row) rest ≡ [] → (f before row ≡ None) × (rest ≡ [])
  none_here f before row rest h = go (f before row) refl h
    where
      go : (o : Option RowFault) → f before row ≡ o → cons_option (option_map (λ g. record { row = length before; fault = g }) o) rest ≡ [] → (f before row ≡ None) × (rest ≡ [])
      go None e h = (e, h)
      go (Some g) e h = cc

  fair_rows : (before rows : List RowText) → IsFair before → after (error_at row_fault) before rows ≡ [] → after (error_at (link_fault packages)) before rows ≡ [] → IsFair (before ++ rows)
  fair_rows before [] fair p q = subst IsFair (sym (append-nil before)) fair
  fair_rows before (row ∷ rows) fair p q =
      let own = none_here row_fault before row _ p in
      let linked = none_here (link_fault packages) before row _ q in
      subst IsFair (append_assoc before (row ∷ []) rows) (fair_rows (before ++ row ∷ []) rows (fair_step before row fair own.0 linked.0) own.1 linked.1)

  fair_all : (rows : List RowText) → faults_by row_fault rows ≡ [] → faults_by (link_fault packages) rows ≡ [] → IsFair rows
  fair_all rows p q =
      fair_rows [] rows (record { ids = tt; features = tt; links = tt; ordered = tt; optional = λ i p name h. cc }) (sym (each_after-is (error_at row_fault) rows) ∙ p) (sym (each_after-is (error_at (link_fault packages)) rows) ∙ q)

bytes_self : (x : Text) → bytes_eq x x ≡ true
bytes_self x = (bytes_decides x x).1 refl

abbrev same_pair : ℕ × ℕ → ℕ × ℕ → Bool
same_pair p q = (p.0 == q.0) && (p.1 == q.1)

pair_self : (p : ℕ × ℕ) → same_pair p p ≡ true
pair_self p = rw (eq-eqb p.0 p.0 refl, eq-eqb p.1 p.1 refl)

-- the optional names of each package are distinct
names_apart : (rows : List RowText) → AllIn (λ p. AreApart bytes_eq p.optional_names) (packages_of rows)
names_apart [] = tt
names_apart (a_package id w ∷ rows) = (AreApart-firsts bytes_eq _, names_apart rows)
names_apart (a_feature name items ∷ rows) = names_apart rows
names_apart (a_dep name target d ∷ rows) = names_apart rows

pairs_apart : (deps : List Dependency) → AreApart same_pair (map pair_of (links_of deps))
pairs_apart deps = AreApart-map pair_of same_pair (links_of deps) (AreApart-map (link_of deps) (λ k l. same_pair (pair_of k) (pair_of l)) (firsts is_joined deps) (AreApart-firsts is_joined deps))

-- the tables of rows with no fault
pub tables_sound : (rows : List RowText) → faults_by row_fault rows ≡ [] → faults_by (link_fault (packages_of rows)) rows ≡ [] → AreTables (record { packages = packages_of rows; links = links_of (dependencies_of (packages_of rows) rows) })
tables_sound rows p q =
    let fair = fair_all (packages_of rows) rows p q in
    record {
      ids = AreApart-no_repeats bytes_eq bytes_self (map (λ p. p.id) (packages_of rows)) fair.ids;
      features = λ i p h. AreApart-no_repeats bytes_eq bytes_self (map (λ f. f.name) p.features) (AllIn-at (λ p. AreApart bytes_eq (map (λ f. f.name) p.features)) (packages_of rows) fair.features i p h);
      optional_names = λ i p h. AreApart-no_repeats bytes_eq bytes_self p.optional_names (AllIn-at (λ p. AreApart bytes_eq p.optional_names) (packages_of rows) (names_apart rows) i p h);
      pairs = AreApart-no_repeats same_pair pair_self (map pair_of (links_of (dependencies_of (packages_of rows) rows))) (pairs_apart (dependencies_of (packages_of rows) rows));
      ends = λ k l h. let e = AllIn-at (HasEnds (length (packages_of rows)) (length (packages_of rows))) (links_of (dependencies_of (packages_of rows) rows)) fair.links k l h in (e.from, e.to);
      declarations = λ k l h. (AllIn-at (HasEnds (length (packages_of rows)) (length (packages_of rows))) (links_of (dependencies_of (packages_of rows) rows)) fair.links k l h).declared;
      order = ordered_by (links_of (dependencies_of (packages_of rows) rows)) fair.ordered;
      optional = fair.optional;
    }
