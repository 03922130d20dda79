-- The rows of entries have no fault among all packages.
use Rattle.std.proofs.Common.{◌≡◌, ℕ, zero, suc, ◌+◌, ◌<◌, ◌≤◌, ◌^◌, List, [], ◌∷◌, ◌++◌, Bool, true, false, cond, not, ◌&&◌, ◌||◌, ◌==◌, Option, None, Some, length, map, refl, ap, sym, subst, ◌∙◌, arith, append_assoc, length-append, bytes_eq, filter}
use Rattle.std.specs.Prelude.{nat_lt}
use Rattle.std.specs.Fmt.{decimal}
use Rattle.std.specs.Cmp.Lexicographic.{bytes_decides}
use Rattle.std.specs.List.{list_any, AllByRecursion, position_or_len}
use Rattle.std.specs.Option.{option_map}
use Rattle.std.specs.List.{cons_option}
use Rattle.std.proofs.lemmas.List.{append-nil, map-append}
use Rattle.std.proofs.lemmas.List.Folds.{list_any-append}
use Rattle.guppy_packages.specs.Rows.{RowText, Text, a_package, a_feature, a_dep}
use Rattle.guppy_packages.specs.Graph.{Dependency as GraphDependency, dependencies_of, firsts, is_joined, link_fault, link_of, links_of, has_other_name, owner, package_before, packages_of, row_dependency}
use Rattle.guppy_packages.specs.Tables.{PackageTable, package_place}
use Rattle.guppy_packages.proofs.EachAfter.{after, after-append, each_after-append}
use Rattle.guppy_packages.proofs.Lists.{list_any-map}
use Rattle.cargo_workspaces.specs.Workspaces.{FeatureText}
use Rattle.plan_rows.specs.Tables.{Dependency, Entry, dependency_row, entry_rows, feature_row, rows_from}
use Rattle.plan_rows.proofs.Sound.{AreSound, owner-is, packages_of-append, sound-append}
use Rattle.plan_rows.proofs.RowFaults.{entry_packages, ids_apart, no_packages-append, no_packages-dependencies, no_packages-features}

-- whether `e` leads to the entry that `d` leads to, by another name
abbrev pub is_renamed : Dependency → Dependency → Bool
is_renamed d e = (d.to == e.to) && not (bytes_eq d.name e.name)

-- whether `e` joins the pair by another name
abbrev other : ℕ → ℕ → Text → GraphDependency → Bool
other from to name e = (from == e.from) && (to == e.to) && not (bytes_eq name e.name)

any_filter : {X : Type 0} (p q : X → Bool) (xs : List X) → list_any p xs ≡ false → list_any p (filter q xs) ≡ false
any_filter p q [] h = refl
any_filter p q (x ∷ xs) h = go (p x) refl (q x) h (any_filter p q xs)
  where
    go : (b : Bool) → p x ≡ b → (c : Bool) → b || list_any p xs ≡ false → (list_any p xs ≡ false → list_any p (filter q xs) ≡ false) → list_any p (cond c (x ∷ filter q xs) (filter q xs)) ≡ false
    go true e c h more = cc
    go false e true h more = rw e (more h)
    go false e false h more = more h

any_firsts : {X : Type 0} (like : X → X → Bool) (p : X → Bool) (xs : List X) → list_any p xs ≡ false → list_any p (firsts like xs) ≡ false
any_firsts like p [] h = refl
any_firsts like p (x ∷ xs) h = go (p x) refl h (any_firsts like p xs)
  where
    go : (b : Bool) → p x ≡ b → b || list_any p xs ≡ false → (list_any p xs ≡ false → list_any p (firsts like xs) ≡ false) → p x || list_any p (filter (λ y. not (like y x)) (firsts like xs)) ≡ false
    go true e h more = cc
    go false e h more = rw e (any_filter p (λ y. not (like y x)) (firsts like xs) (more h))

front : {X : Type 0} (p : X → Bool) (xs ys : List X) → list_any p (xs ++ ys) ≡ false → list_any p xs ≡ false
front p [] ys h = refl
front p (x ∷ xs) ys h = go (p x) h (front p xs ys)
  where
    go : (b : Bool) → b || list_any p (xs ++ ys) ≡ false → (list_any p (xs ++ ys) ≡ false → list_any p xs ≡ false) → b || list_any p xs ≡ false
    go true h more = cc
    go false h more = more h

-- no link has another name if no dependency has
no_other_link : (from to : ℕ) (name : Text) (ds : List GraphDependency) → list_any (other from to name) ds ≡ false → has_other_name from to name (links_of ds) ≡ false
no_other_link from to name ds h =
    list_any-map (link_of ds) (λ l. (from == l.from) && (to == l.to) && not (bytes_eq name l.name)) (firsts is_joined ds) ∙ any_firsts is_joined (other from to name) ds h

packages-count : (xs ys : List RowText) → length (packages_of (xs ++ ys)) ≡ length (packages_of xs) + length (packages_of ys)
packages-count [] ys = omega arith
packages-count (a_package id w ∷ xs) ys = omega (arith, packages-count xs ys)
packages-count (a_feature name items ∷ xs) ys = packages-count xs ys
packages-count (a_dep name target d ∷ xs) ys = packages-count xs ys

not_same : (n m : ℕ) → m < n → (n == m) ≡ false
not_same n m h = grind arith

module _ (all : List PackageTable) where
  -- a dependency leaves one of the packages up to then
  from_below : (before rows : List RowText) (n : ℕ) → length (packages_of before) + length (packages_of rows) ≤ n → 0 < n → list_any (λ e. n == e.from) (after (row_dependency all) before rows) ≡ false
  from_below before [] n few some = refl
  from_below before (a_package id w ∷ rows) n few some =
      let more : length (packages_of (before ++ a_package id w ∷ [])) ≡ length (packages_of before) + 1 = packages-count before (a_package id w ∷ []) in
      from_below (before ++ a_package id w ∷ []) rows n (omega arith) some
  from_below before (a_feature name items ∷ rows) n few some =
      let same : length (packages_of (before ++ a_feature name items ∷ [])) ≡ length (packages_of before) + 0 = packages-count before (a_feature name items ∷ []) in
      from_below (before ++ a_feature name items ∷ []) rows n (omega arith) some
  from_below before (a_dep name target d ∷ rows) n few some =
      let same : length (packages_of (before ++ a_dep name target d ∷ [])) ≡ length (packages_of before) + 0 = packages-count before (a_dep name target d ∷ []) in
      go (package_place target all) (from_below (before ++ a_dep name target d ∷ []) rows n (omega arith) some)
    where
      rest : List GraphDependency
      rest = after (row_dependency all) (before ++ a_dep name target d ∷ []) rows

      go : (o : Option ℕ) → list_any (λ e. n == e.from) rest ≡ false → list_any (λ e. n == e.from) (cons_option (option_map (λ to. record { from = owner before; to = to; name = name; declared = d }) o) rest) ≡ false
      go None h = h
      go (Some to) h =
          let below : (n == owner before) ≡ false = not_same n (owner before) (omega arith) in
          rw (below, h) refl

  features_none : (before : List RowText) (fs : List FeatureText) → after (row_dependency all) before (map feature_row fs) ≡ []
  features_none before [] = refl
  features_none before (f ∷ fs) = features_none (before ++ feature_row f ∷ []) fs

  -- whether the dependency leads to a package
  abbrev pub Leads : Dependency → Type 0
  Leads d = package_place (decimal d.to) all ≡ Some d.to

  leads_push : (ds : List Dependency) (d : Dependency) → AllByRecursion Leads ds → Leads d → AllByRecursion Leads (ds ++ d ∷ [])
  leads_push [] d a h = (h, tt)
  leads_push (e ∷ ds) d a h = (a.0, leads_push ds d a.1 h)

  and_false : (b c d : Bool) → (c && d) ≡ false → (b && c && d) ≡ false
  and_false true c d h = h
  and_false false c d h = refl

  names_same : (d : Dependency) (from : ℕ) (before : List RowText) (ds : List Dependency) → AllByRecursion Leads ds → list_any (is_renamed d) ds ≡ false → list_any (other from d.to d.name) (after (row_dependency all) before (map dependency_row ds)) ≡ false
  names_same d from before [] a h = refl
  names_same d from before (e ∷ ds) a h = go (is_renamed d e) refl h (names_same d from (before ++ dependency_row e ∷ []) ds a.1)
    where
      rest : List GraphDependency
      rest = after (row_dependency all) (before ++ dependency_row e ∷ []) (map dependency_row ds)

      go : (b : Bool) → is_renamed d e ≡ b → b || list_any (is_renamed d) ds ≡ false → (list_any (is_renamed d) ds ≡ false → list_any (other from d.to d.name) rest ≡ false) → list_any (other from d.to d.name) (after (row_dependency all) before (map dependency_row (e ∷ ds))) ≡ false
      go true s h next = cc
      go false s h next =
          let more : list_any (other from d.to d.name) rest ≡ false = next h in
          let here : ((from == owner before) && (d.to == e.to) && not (bytes_eq d.name e.name)) ≡ false = and_false (from == owner before) (d.to == e.to) (not (bytes_eq d.name e.name)) s in
          rw (a.0, here, more) refl

  -- no dependency of the rows leaves a package with number `k` or more
  abbrev AreBelow : ℕ → List RowText → Type 0
  AreBelow k rows = (n : ℕ) → k ≤ n → list_any (λ e. n == e.from) (dependencies_of all rows) ≡ false

  any_weaker : (n to : ℕ) (name : Text) (es : List GraphDependency) → list_any (λ e. n == e.from) es ≡ false → list_any (other n to name) es ≡ false
  any_weaker n to name [] h = refl
  any_weaker n to name (e ∷ es) h = go (n == e.from) refl h (any_weaker n to name es)
    where
      go : (b : Bool) → (n == e.from) ≡ b → b || list_any (λ e. n == e.from) es ≡ false → (list_any (λ e. n == e.from) es ≡ false → list_any (other n to name) es ≡ false) → other n to name e || list_any (other n to name) es ≡ false
      go true s h more = cc
      go false s h more = rw (s, more h) refl

  module _ (past : List RowText) (id : Text) (w : Bool) (old : AreBelow (length (packages_of past)) past) (fs : List FeatureText) where
    passes : (before : List Dependency) (d : Dependency) → AllByRecursion Leads before → Leads d → list_any (is_renamed d) before ≡ false
        → link_fault all (past ++ a_package id w ∷ (map feature_row fs ++ map dependency_row before)) (dependency_row d) ≡ None
    passes before d leads lead named =
        let f = row_dependency all in
        let F = map feature_row fs in
        let D = map dependency_row before in
        let rows = past ++ a_package id w ∷ (F ++ D) in
        let n = length (packages_of past) in
        let number : owner rows ≡ n = owner-is past (F ++ D) id w (no_packages-append F D (no_packages-features fs) (no_packages-dependencies before)) in
        let cut : dependencies_of all rows ≡ dependencies_of all past ++ (after f (past ++ a_package id w ∷ []) F ++ after f ((past ++ a_package id w ∷ []) ++ F) D) =
        each_after-append f past (a_package id w ∷ (F ++ D)) ∙ ap (λ z. dependencies_of all past ++ z) (after-append f (past ++ a_package id w ∷ []) F D) in
        let none : after f (past ++ a_package id w ∷ []) F ≡ [] = features_none (past ++ a_package id w ∷ []) fs in
        let first : list_any (other n d.to d.name) (dependencies_of all past) ≡ false = any_weaker n d.to d.name (dependencies_of all past) (old n (omega arith)) in
        let second : list_any (other n d.to d.name) (after f ((past ++ a_package id w ∷ []) ++ F) D) ≡ false = names_same d n ((past ++ a_package id w ∷ []) ++ F) before leads named in
        let all_of : list_any (other n d.to d.name) (dependencies_of all rows) ≡ false =
        ap (list_any (other n d.to d.name)) (cut ∙ ap (λ z. dependencies_of all past ++ (z ++ after f ((past ++ a_package id w ∷ []) ++ F) D)) none)
        ∙ list_any-append (other n d.to d.name) (dependencies_of all past) (after f ((past ++ a_package id w ∷ []) ++ F) D) ∙ rw (first, second) refl in
        let fine : has_other_name (owner rows) d.to d.name (links_of (dependencies_of all rows)) ≡ false = ap (λ m. has_other_name m d.to d.name (links_of (dependencies_of all rows))) number ∙ no_other_link n d.to d.name (dependencies_of all rows) all_of in
        rw (lead, fine) refl

    dependencies_sound : (before ds : List Dependency) → AllByRecursion Leads before → AllByRecursion Leads ds → AllByRecursion (λ d. list_any (is_renamed d) (before ++ ds) ≡ false) ds
        → AreSound (link_fault all) (past ++ a_package id w ∷ (map feature_row fs ++ map dependency_row before)) (map dependency_row ds)
    dependencies_sound before [] leads more named = tt
    dependencies_sound before (d ∷ ds) leads more named =
        let F = map feature_row fs in
        let D = map dependency_row before in
        let here : list_any (is_renamed d) before ≡ false = front (is_renamed d) before (d ∷ ds) named.0 in
        let next : past ++ a_package id w ∷ (F ++ map dependency_row (before ++ d ∷ [])) ≡ (past ++ a_package id w ∷ (F ++ D)) ++ dependency_row d ∷ [] =
        ap (λ z. past ++ a_package id w ∷ (F ++ z)) (map-append dependency_row before (d ∷ [])) ∙ ap (λ z. past ++ a_package id w ∷ z) (sym (append_assoc F D (dependency_row d ∷ []))) ∙ sym (append_assoc past (a_package id w ∷ (F ++ D)) (dependency_row d ∷ [])) in
        let rest : AllByRecursion (λ e. list_any (is_renamed e) ((before ++ d ∷ []) ++ ds) ≡ false) ds = subst (λ z. AllByRecursion (λ e. list_any (is_renamed e) z ≡ false) ds) (sym (append_assoc before (d ∷ []) ds)) named.1 in
        (passes before d leads more.0 here, subst (λ z. AreSound (link_fault all) z (map dependency_row ds)) next (dependencies_sound (before ++ d ∷ []) ds (leads_push before d leads more.0) more.1 rest))

  features_sound : (before : List RowText) (fs : List FeatureText) → AreSound (link_fault all) before (map feature_row fs)
  features_sound before [] = tt
  features_sound before (f ∷ fs) = (refl, features_sound (before ++ feature_row f ∷ []) fs)

  entry_sound : (past : List RowText) (k : ℕ) (e : Entry) → AreBelow (length (packages_of past)) past → AllByRecursion Leads e.dependencies → AllByRecursion (λ d. list_any (is_renamed d) e.dependencies ≡ false) e.dependencies → AreSound (link_fault all) past (entry_rows k e)
  entry_sound past k e old leads named =
      let id = decimal k in
      let fs = map feature_row e.features in
      let ds = map dependency_row e.dependencies in
      let start : past ++ a_package id false ∷ (fs ++ []) ≡ (past ++ a_package id false ∷ []) ++ fs = ap (λ z. past ++ a_package id false ∷ z) (append-nil fs) ∙ sym (append_assoc past (a_package id false ∷ []) fs) in
      let dependencies = subst (λ z. AreSound (link_fault all) z ds) start (dependencies_sound past id false old e.features [] e.dependencies tt leads named) in
      (refl, sound-append (link_fault all) (past ++ a_package id false ∷ []) fs ds (features_sound (past ++ a_package id false ∷ []) e.features) dependencies)

  below_next : (past : List RowText) (k : ℕ) (e : Entry) → length (packages_of past) ≡ k → AreBelow k past → AreBelow (k + 1) (past ++ entry_rows k e)
  below_next past k e count old n from =
      let f = row_dependency all in
      let rows = entry_rows k e in
      let one : length (packages_of rows) ≡ 1 = ap length (entry_packages [] k e) in
      let rest : list_any (λ d. n == d.from) (after f past rows) ≡ false = from_below past rows n (omega arith) (omega arith) in
      ap (list_any (λ d. n == d.from)) (each_after-append f past rows) ∙ list_any-append (λ d. n == d.from) (dependencies_of all past) (after f past rows) ∙ rw (old n (omega arith), rest) refl

  -- an entry whose dependencies lead to packages, each by one name
  abbrev pub IsLinked : Entry → Type 0
  IsLinked e = AllByRecursion Leads e.dependencies × AllByRecursion (λ d. list_any (is_renamed d) e.dependencies ≡ false) e.dependencies

  sound_from : (past : List RowText) (k : ℕ) (es : List Entry) → length (packages_of past) ≡ k → AreBelow k past → AllByRecursion IsLinked es → AreSound (link_fault all) past (rows_from k es)
  sound_from past k [] count old a = tt
  sound_from past k (e ∷ es) count old a =
      let more : length (packages_of (past ++ entry_rows k e)) ≡ k + 1 = ap length (entry_packages past k e) ∙ length-append (packages_of past) _ ∙ ap (λ n. n + 1) count in
      sound-append (link_fault all) past (entry_rows k e) (rows_from (k + 1) es) (entry_sound past k e (subst (λ n. AreBelow n past) (sym count) old) a.0.0 a.0.1)
      (sound_from (past ++ entry_rows k e) (k + 1) es more (below_next past k e count old) a.1)

  pub links_sound : (es : List Entry) → AllByRecursion IsLinked es → AreSound (link_fault all) [] (rows_from 0 es)
  links_sound es a = sound_from [] 0 es refl (λ n from. refl) a

-- the packages of the rows of entries
packages_rows : (past : List RowText) (k : ℕ) (es : List Entry) → packages_of (past ++ rows_from k es) ≡ packages_of past ++ packages_of (rows_from k es)
packages_rows past k [] = ap packages_of (append-nil past) ∙ sym (append-nil (packages_of past))
packages_rows past k (e ∷ es) = packages_of-append past ((map feature_row e.features ++ map dependency_row e.dependencies) ++ rows_from (k + 1) es) (decimal k) false

packages_step : (k : ℕ) (e : Entry) (es : List Entry) → packages_of (rows_from k (e ∷ es)) ≡ package_before (decimal k) false (map feature_row e.features ++ map dependency_row e.dependencies) ∷ packages_of (rows_from (k + 1) es)
packages_step k e es = packages_rows (entry_rows k e) (k + 1) es ∙ ap (λ z. z ++ packages_of (rows_from (k + 1) es)) (entry_packages [] k e)

self : (n : ℕ) → bytes_eq (decimal n) (decimal n) ≡ true
self n = (bytes_decides (decimal n) (decimal n)).1 refl

one_more : (j : ℕ) → 1 + j ≡ suc j
one_more j = omega arith

-- the place of an entry's id
place_from : (es : List Entry) (k j : ℕ) → j < length es → k + j < 2 ^ 64 → position_or_len (λ p. bytes_eq (decimal (k + j)) p.id) (packages_of (rows_from k es)) ≡ j
place_from [] k j within small = absurd (omega arith)
place_from (e ∷ es) k j within small = ap (position_or_len (λ p. bytes_eq (decimal (k + j)) p.id)) (packages_step k e es) ∙ go j within small (place_from es (k + 1))
  where
    rest : List PackageTable
    rest = packages_of (rows_from (k + 1) es)

    go : (j : ℕ) → j < length (e ∷ es) → k + j < 2 ^ 64 → ((i : ℕ) → i < length es → k + 1 + i < 2 ^ 64 → position_or_len (λ p. bytes_eq (decimal (k + 1 + i)) p.id) rest ≡ i) → cond (not (bytes_eq (decimal (k + j)) (decimal k))) (1 + position_or_len (λ p. bytes_eq (decimal (k + j)) p.id) rest) 0 ≡ j
    go zero within small at =
        let same : k + 0 ≡ k = omega arith in
        ap (λ n. cond (not (bytes_eq (decimal n) (decimal k))) (1 + position_or_len (λ p. bytes_eq (decimal n) p.id) rest) 0) same ∙ rw (self k) refl
    go (suc j) within small at =
        let apart : bytes_eq (decimal (k + suc j)) (decimal k) ≡ false = ids_apart (k + suc j) k (omega arith) small in
        let next : k + suc j ≡ k + 1 + j = omega arith in
        let more : position_or_len (λ p. bytes_eq (decimal (k + 1 + j)) p.id) rest ≡ j = at j (omega arith) (omega arith) in
        ap (λ b. cond (not b) (1 + position_or_len (λ p. bytes_eq (decimal (k + suc j)) p.id) rest) 0) apart
        ∙ ap (λ n. 1 + position_or_len (λ p. bytes_eq (decimal n) p.id) rest) next ∙ ap (λ n. 1 + n) more ∙ one_more j

packages_length : (k : ℕ) (es : List Entry) → length (packages_of (rows_from k es)) ≡ length es
packages_length k [] = refl
packages_length k (e ∷ es) = ap length (packages_step k e es) ∙ ap (λ n. suc n) (packages_length (k + 1) es)

pub place-is : (es : List Entry) (n : ℕ) → n < length es → length es < 2 ^ 64 → package_place (decimal n) (packages_of (rows_from 0 es)) ≡ Some n
place-is es n within small =
    let zero_plus : 0 + n ≡ n = omega arith in
    let at : position_or_len (λ p. bytes_eq (decimal n) p.id) (packages_of (rows_from 0 es)) ≡ n = subst (λ m. position_or_len (λ p. bytes_eq (decimal m) p.id) (packages_of (rows_from 0 es)) ≡ n) zero_plus (place_from es 0 n within (omega arith)) in
    let below : nat_lt n (length es) ≡ true = grind arith in
    rw (at, packages_length 0 es, below) refl
