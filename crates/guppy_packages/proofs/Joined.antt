-- The links of dependencies, and the effect of one more dependency.
use Rattle.std.proofs.Common.{◌≡◌, ◌≢◌, ◌⊎◌, inl, inr, ℕ, List, [], ◌∷◌, ◌++◌, Bool, true, false, cond, ◌||◌, Option, None, Some, Err, map, length, refl, ap, ap₂, sym, ◌∙◌, if◌then◌else◌}
use Rattle.std.specs.Prelude.{filter, ◌==◌, ◌&&◌}
use Rattle.std.specs.List.{cons_option, list_any}
use Rattle.std.specs.Option.{option_map, option_map_or}
use Rattle.std.specs.Str.{bytes_eq}
use Rattle.std.proofs.lemmas.Bool.{eq-eqb, eqb-true}
use Rattle.std.proofs.lemmas.Bool.Decides.{eqb_tells}
use Rattle.std.proofs.lemmas.List.{append-nil, map-append}
use Rattle.std.proofs.lemmas.List.Elements.{filter-append}
use Rattle.guppy_packages.specs.Rows.{RowText, a_package, a_feature, a_dep}
use Rattle.guppy_packages.specs.Tables.{PackageTable, package_place}
use Rattle.guppy_packages.specs.Graph.{Dependency, dependencies_of, firsts, has_other_name, is_joined, link_fault, link_of, links_of, owner, packages_of, row_dependency}
use Rattle.guppy_packages.specs.inner.Steps.{add_link, result_map, second_step}
use Rattle.guppy_packages.specs.declared.row_error.RowFault.{RowFault}
use Rattle.guppy_packages.specs.declared.row_error.RowFault.TheVariants.{UnknownTarget, OtherName}
use Rattle.guppy_packages.proofs.EachAfter.{each_after-push}
use Rattle.guppy_packages.proofs.Firsts.{AreApart, AreApart-firsts, filter-none, firsts-push, list_any-firsts}
use Rattle.guppy_packages.proofs.Sections.{outcome}

eqb-sym : (a b : ℕ) → (a == b) ≡ (b == a)
eqb-sym a b = go (eqb_tells a b) (eqb_tells b a)
  where
    go : ((a == b) ≡ true) × (a ≡ b) ⊎ ((a == b) ≡ false) × (a ≢ b) → ((b == a) ≡ true) × (b ≡ a) ⊎ ((b == a) ≡ false) × (b ≢ a) → (a == b) ≡ (b == a)
    go (inl p) (inl q) = p.0 ∙ sym q.0
    go (inl p) (inr q) = absurd (q.1 (sym p.1))
    go (inr p) (inl q) = absurd (p.1 (sym q.1))
    go (inr p) (inr q) = p.0 ∙ sym q.0

eqb-refl : (a : ℕ) → (a == a) ≡ true
eqb-refl a = eq-eqb a a refl

-- dependencies of one pair have the same ends
pub joined_ends : (d e : Dependency) → is_joined d e ≡ true → (d.from ≡ e.from) × (d.to ≡ e.to)
joined_ends d e h = go (d.from == e.from) refl (d.to == e.to) refl h
  where
    go : (b : Bool) → (d.from == e.from) ≡ b → (c : Bool) → (d.to == e.to) ≡ c → (b && c) ≡ true → (d.from ≡ e.from) × (d.to ≡ e.to)
    go true p true q h = (eqb-true d.from e.from p, eqb-true d.to e.to q)
    go true p false q h = cc
    go false p c q h = cc

same_ends : (a b c d : ℕ) → (a ≡ b) × (c ≡ d) → ((a == b) && (c == d)) ≡ true
same_ends a b c d h = rw (h.0, h.1, eqb-refl b, eqb-refl d)

pub joined_sym : (d e : Dependency) → is_joined d e ≡ is_joined e d
joined_sym d e = ap₂ (λ b c. b && c) (eqb-sym d.from e.from) (eqb-sym d.to e.to)

pub joined_along : (a b c : Dependency) → is_joined a b ≡ true → is_joined b c ≡ true → is_joined a c ≡ true
joined_along a b c e f =
    let p = joined_ends a b e in
    let q = joined_ends b c f in
    same_ends a.from c.from a.to c.to (p.0 ∙ q.0, p.1 ∙ q.1)

-- dependencies of one pair are alike to every third one
joined_as : (d y z : Dependency) → is_joined d y ≡ true → is_joined d z ≡ is_joined z y
joined_as d y z h =
    let ends = joined_ends d y h in
    rw (ends.0, ends.1) (joined_sym y z)

none_joined : (d y : Dependency) (ys : List Dependency) → is_joined d y ≡ true → list_any (λ z. is_joined z y) ys ≡ false → list_any (is_joined d) ys ≡ false
none_joined d y [] h a = refl
none_joined d y (z ∷ zs) h a = rw (joined_as d y z h) (go (is_joined z y) a (none_joined d y zs h))
  where
    go : (b : Bool) → b || list_any (λ z. is_joined z y) zs ≡ false → (list_any (λ z. is_joined z y) zs ≡ false → list_any (is_joined d) zs ≡ false) → b || list_any (is_joined d) zs ≡ false
    go true a more = cc
    go false a more = more a

-- the link that y begins, with one more dependency d
link_of-push : (all : List Dependency) (d y : Dependency) → link_of (all ++ d ∷ []) y ≡ (if is_joined d y then record (link_of all y) { declarations = (link_of all y).declarations ++ d.declared ∷ [] } else link_of all y)
link_of-push all d y = rw (filter-append (is_joined y) all (d ∷ []), joined_sym y d) (go (is_joined d y))
  where
    go : (b : Bool) → record { from = y.from; to = y.to; name = y.name; declarations = map (λ e. e.declared) (filter (is_joined y) all ++ cond b (d ∷ []) []) } ≡ (if b then record (link_of all y) { declarations = (link_of all y).declarations ++ d.declared ∷ [] } else link_of all y)
    go true = rw (map-append (λ e. e.declared) (filter (is_joined y) all) (d ∷ []))
    go false = rw (append-nil (filter (is_joined y) all))

links_kept : (all : List Dependency) (d : Dependency) (ys : List Dependency) → list_any (is_joined d) ys ≡ false → map (link_of (all ++ d ∷ [])) ys ≡ map (link_of all) ys
links_kept all d [] h = refl
links_kept all d (y ∷ ys) h = go (is_joined d y) refl h (links_kept all d ys)
  where
    go : (b : Bool) → is_joined d y ≡ b → b || list_any (is_joined d) ys ≡ false → (list_any (is_joined d) ys ≡ false → map (link_of (all ++ d ∷ [])) ys ≡ map (link_of all) ys)
        → map (link_of (all ++ d ∷ [])) (y ∷ ys) ≡ map (link_of all) (y ∷ ys)
    go true e h more = cc
    go false e h more =
        let same : link_of (all ++ d ∷ []) y ≡ link_of all y = link_of-push all d y ∙ rw e in
        ap₂ (λ l ls. l ∷ ls) same (more h)

no_other_name : (all : List Dependency) (d : Dependency) (ys : List Dependency) → list_any (is_joined d) ys ≡ false → has_other_name d.from d.to d.name (map (link_of all) ys) ≡ false
no_other_name all d [] h = refl
no_other_name all d (y ∷ ys) h = go (is_joined d y) refl h (no_other_name all d ys)
  where
    go : (b : Bool) → is_joined d y ≡ b → b || list_any (is_joined d) ys ≡ false → (list_any (is_joined d) ys ≡ false → has_other_name d.from d.to d.name (map (link_of all) ys) ≡ false)
        → has_other_name d.from d.to d.name (map (link_of all) (y ∷ ys)) ≡ false
    go true e h more = cc
    go false e h more = rw e (more h)

abbrev with_new : {X : Type 0} → Bool → List X → X → List X
with_new b xs x = if b then xs else xs ++ x ∷ []

abbrev name_fault : Bool → Option RowFault
name_fault b = if b then Some OtherName else None

result_map-outcome : {X Y : Type 0} (f : X → Y) (o : Option RowFault) (x : X) → result_map f (outcome o x) ≡ outcome o (f x)
result_map-outcome f None x = refl
result_map-outcome f (Some fault) x = refl

-- the links of some of the firsts, with one more dependency, are as defined
joined : (all : List Dependency) (d : Dependency) (ys : List Dependency) → AreApart is_joined ys → (list_any (is_joined d) ys ≡ false → filter (is_joined d) all ≡ [])
    → add_link d.from d.to d.name d.declared (map (link_of all) ys)
    ≡ outcome (name_fault (has_other_name d.from d.to d.name (map (link_of all) ys))) (map (link_of (all ++ d ∷ [])) (with_new (list_any (is_joined d) ys) ys d))
joined all d [] a alone =
    rw (link_of-push all d d, same_ends d.from d.from d.to d.to (refl, refl), alone refl)
joined all d (y ∷ ys) a alone = go (is_joined d y) refl (bytes_eq d.name y.name) refl (λ h. joined all d ys a.1 h)
  where
    go : (b : Bool) → is_joined d y ≡ b → (n : Bool) → bytes_eq d.name y.name ≡ n
        → ((list_any (is_joined d) ys ≡ false → filter (is_joined d) all ≡ [])
        → add_link d.from d.to d.name d.declared (map (link_of all) ys) ≡ outcome (name_fault (has_other_name d.from d.to d.name (map (link_of all) ys))) (map (link_of (all ++ d ∷ [])) (with_new (list_any (is_joined d) ys) ys d)))
        → add_link d.from d.to d.name d.declared (map (link_of all) (y ∷ ys))
        ≡ outcome (name_fault (has_other_name d.from d.to d.name (map (link_of all) (y ∷ ys)))) (map (link_of (all ++ d ∷ [])) (with_new (list_any (is_joined d) (y ∷ ys)) (y ∷ ys) d))
    go true e true n more =
        let none = none_joined d y ys e a.0 in
        let kept = links_kept all d ys none in
        let other = no_other_name all d ys none in
        let here : link_of (all ++ d ∷ []) y ≡ record (link_of all y) { declarations = (link_of all y).declarations ++ d.declared ∷ [] } = link_of-push all d y ∙ rw e in
        rw (e, n, other, here, kept)
    go true e false n more = rw (e, n)
    go false e c n more = rw (e, more (λ h. alone (rw e h)), result_map-outcome (λ rest. link_of all y ∷ rest)) (ap (outcome _) (last (list_any (is_joined d) ys)))
      where
        here : link_of (all ++ d ∷ []) y ≡ link_of all y
        here = link_of-push all d y ∙ rw e

        last : (b : Bool) → link_of all y ∷ map (link_of (all ++ d ∷ [])) (with_new b ys d) ≡ map (link_of (all ++ d ∷ [])) (with_new b (y ∷ ys) d)
        last true = rw here
        last false = rw here

-- all links, with one more dependency, are as defined
add_link-is : (all : List Dependency) (d : Dependency)
    → add_link d.from d.to d.name d.declared (links_of all) ≡ outcome (name_fault (has_other_name d.from d.to d.name (links_of all))) (links_of (all ++ d ∷ []))
add_link-is all d =
    joined all d (firsts is_joined all) (AreApart-firsts is_joined all) (λ h. filter-none (is_joined d) all (sym (list_any-firsts is_joined joined_along d all) ∙ h))
    ∙ ap (λ ys. outcome (name_fault (has_other_name d.from d.to d.name (links_of all))) (map (link_of (all ++ d ∷ [])) ys)) (sym (firsts-push is_joined joined_along all d))

-- the second pass reads a row as defined
pub second_step-is : (packages : List PackageTable) (before : List RowText) (row : RowText)
    → second_step packages (length (packages_of before)) (links_of (dependencies_of packages before)) row ≡ outcome (link_fault packages before row) (links_of (dependencies_of packages (before ++ row ∷ [])))
second_step-is packages before (a_package id w) = rw (each_after-push (row_dependency packages) before (a_package id w), append-nil (dependencies_of packages before))
second_step-is packages before (a_feature name items) = rw (each_after-push (row_dependency packages) before (a_feature name items), append-nil (dependencies_of packages before))
second_step-is packages before (a_dep name target d) = rw (each_after-push (row_dependency packages) before (a_dep name target d)) (go (package_place target packages))
  where
    go : (o : Option ℕ) → option_map_or (λ to. add_link (owner before) to name d (links_of (dependencies_of packages before))) o (Err UnknownTarget)
        ≡ outcome (option_map_or (λ to. name_fault (has_other_name (owner before) to name (links_of (dependencies_of packages before)))) o (Some UnknownTarget)) (links_of (dependencies_of packages before ++ cons_option (option_map (λ to. record { from = owner before; to = to; name = name; declared = d }) o) []))
    go None = refl
    go (Some to) = add_link-is (dependencies_of packages before) (record { from = owner before; to = to; name = name; declared = d })
