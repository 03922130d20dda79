-- A joined workspace satisfies the rules of workspaces.
use Rattle.std.proofs.Common.{◌≡◌, ◌∙◌, refl, ap, sym, subst, ℕ, suc, ◌+◌, List, [], ◌∷◌, ◌++◌, Bool, true, false, ◌&&◌, ◌||◌, cond, map, filter, length, nat_eq, nat_lt, not, Option}
use Rattle.std.specs.Prelude.{IsTrue, Some, None, slice_get}
use Rattle.std.specs.List.{AllByRecursion, list_all, list_any}
use Rattle.std.specs.List.Sorted.{IsStrictlySortedBy}
use Rattle.std.specs.Option.{option_map_or}
use Rattle.std.specs.Str.{bytes_eq}
use Rattle.std.proofs.lemmas.Bool.{and_from, and_parts, lt-ltb, or_parts, or_right}
use Rattle.std.proofs.lemmas.Bool.Decides.{Decides-eqb}
use Rattle.std.proofs.lemmas.List.Folds.{list_all-append}
use Rattle.std.proofs.lemmas.Option.{slice_get_within}
use Rattle.std.proofs.lemmas.Slice.Eq.{bytes_eq-Decides}
use Rattle.cargo_workspaces.specs.Workspaces.{DeclarationText, IsPackage, IsWorkspace, PackageText, Text, WorkspaceText, both_lead_to, is_other_name, is_within, text_cmp}
use Rattle.feats_duplicates.specs.Alone.{AloneText}
use Rattle.feats_duplicates.specs.Features.{is_from_default_registry}
use Rattle.feats_duplicates.specs.Joined.{JoinText, declaration_of, is_for, join_if, join_of, joined_from, joined_package, joined_packages, joined_workspace, joins_at, joins_of, name_among}

all_append : {X : Type 0} (P : X → Type 0) (xs ys : List X) → AllByRecursion P xs → AllByRecursion P ys → AllByRecursion P (xs ++ ys)
all_append P [] ys all more = more
all_append P (x ∷ xs) ys (first, rest) more = (first, all_append P xs ys rest more)

all_mapped : {X Y : Type 0} (P : Y → Type 0) (Q : X → Type 0) (f : X → Y) → ((x : X) → Q x → P (f x)) → (xs : List X) → AllByRecursion Q xs → AllByRecursion P (map f xs)
all_mapped P Q f each [] all = tt
all_mapped P Q f each (x ∷ xs) (first, rest) = (each x first, all_mapped P Q f each xs rest)

one_filtered : {X : Type 0} (Q : X → Type 0) (b : Bool) (x : X) (rest : List X) → Q x → AllByRecursion Q rest → AllByRecursion Q (cond b (x ∷ rest) rest)
one_filtered Q true x rest first all = (first, all)
one_filtered Q false x rest first all = all

all_filtered : {X : Type 0} (Q : X → Type 0) (test : X → Bool) (xs : List X) → AllByRecursion Q xs → AllByRecursion Q (filter test xs)
all_filtered Q test [] all = tt
all_filtered Q test (x ∷ xs) (first, rest) = one_filtered Q (test x) x (filter test xs) first (all_filtered Q test xs rest)

passed : {X : Type 0} (test : X → Bool) (xs : List X) → AllByRecursion (λ x. test x ≡ true) xs → list_all test xs ≡ true
passed test [] all = refl
passed test (x ∷ xs) (first, rest) = and_from (test x) (list_all test xs) first (passed test xs rest)

-- the declaration has the name that `names` has for the package to which it leads
abbrev Named : (ℕ → Text) → DeclarationText → Type 0
Named names d = (p : ℕ) → d.leads_to ≡ Some p → d.name ≡ names p

-- declarations with such names have no second name for a package
module _ (names : ℕ → Text) where
  not_other_by : (p q : Option ℕ) (m n : Text) → ((k : ℕ) → p ≡ Some k → m ≡ names k) → ((k : ℕ) → q ≡ Some k → n ≡ names k) → (both_lead_to p q && not (bytes_eq n m)) ≡ false
  not_other_by None q m n f g = refl
  not_other_by (Some a) None m n f g = refl
  not_other_by (Some a) (Some b) m n f g = by (nat_eq a b) refl
    where
      by : (t : Bool) → nat_eq a b ≡ t → (t && not (bytes_eq n m)) ≡ false
      by false e = refl
      by true e = ap not ((bytes_eq-Decides n m).1 (g b refl ∙ ap names (sym ((Decides-eqb a b).0 e)) ∙ sym (f a refl)))

  none_other : (d : DeclarationText) → Named names d → (es : List DeclarationText) → AllByRecursion (Named names) es → list_any (is_other_name d) es ≡ false
  none_other d good [] all = refl
  none_other d good (e ∷ es) (first, rest) =
      let this : is_other_name d e ≡ false = not_other_by d.leads_to e.leads_to d.name e.name good first in
      rw (this, none_other d good es rest) refl

  one_name : (es ds : List DeclarationText) → AllByRecursion (Named names) es → AllByRecursion (Named names) ds → list_all (λ d. not (list_any (is_other_name d) es)) ds ≡ true
  one_name es [] all some = refl
  one_name es (d ∷ ds) all (first, rest) = rw (none_other d first es all, one_name es ds all rest) refl

abbrev leads : ℕ → DeclarationText → Bool
leads p d = both_lead_to (Some p) d.leads_to

-- the name of a declaration that has no other name beside it
name_kept : (d : DeclarationText) (p : ℕ) (name : Text) → d.leads_to ≡ Some p → (es : List DeclarationText) → list_any (is_other_name d) es ≡ false → list_any (leads p) es ≡ true → d.name ≡ name_among p name es
name_kept d p name is [] none has = cc
name_kept d p name is (e ∷ es) none has = by (λ h. name_kept d p name is es parts.1 h) (leads p e) refl
  where
    parts : (is_other_name d e ≡ false) × (list_any (is_other_name d) es ≡ false)
    parts = or_parts _ _ none

    same_name : (b : Bool) → leads p e ≡ true → bytes_eq e.name d.name ≡ b → d.name ≡ e.name
    same_name true l h = sym ((bytes_eq-Decides e.name d.name).0 h)
    same_name false l h =
        let other : is_other_name d e ≡ true = and_from _ _ (ap (λ q. both_lead_to q e.leads_to) is ∙ l) (ap not h) in
        cc

    by : (list_any (leads p) es ≡ true → d.name ≡ name_among p name es) → (b : Bool) → leads p e ≡ b → d.name ≡ cond b e.name (name_among p name es)
    by more true l = same_name (bytes_eq e.name d.name) l refl
    by more false l = more (sym (ap (λ t. t || list_any (leads p) es) l) ∙ has)

-- the names of declarations that satisfy the rule
module _ (ds : List DeclarationText) (other : ℕ → Text) where
  abbrev names : ℕ → Text
  names p = name_among p (other p) ds

  leads_itself : (d : DeclarationText) (p : ℕ) → d.leads_to ≡ Some p → leads p d ≡ true
  leads_itself d p is = ap (both_lead_to (Some p)) is ∙ (Decides-eqb p p).1 refl

  named_by : (xs : List DeclarationText) → ((p : ℕ) → list_any (leads p) xs ≡ true → list_any (leads p) ds ≡ true) → list_all (λ d. not (list_any (is_other_name d) ds)) xs ≡ true
      → AllByRecursion (Named names) xs
  named_by [] within all = tt
  named_by (d ∷ xs) within all =
      let parts = and_parts (not (list_any (is_other_name d) ds)) (list_all (λ e. not (list_any (is_other_name e) ds)) xs) all in (
        (λ p is. name_kept d p (other p) is ds (none (list_any (is_other_name d) ds) parts.0) (within p (ap (λ t. t || list_any (leads p) xs) (leads_itself d p is)))),
        named_by xs (λ p h. within p (or_right (leads p d) (list_any (leads p) xs) h)) parts.1,
      )
    where
      none : (b : Bool) → not b ≡ true → b ≡ false
      none true h = sym h
      none false h = refl

  named : IsTrue (list_all (λ d. not (list_any (is_other_name d) ds)) ds) → AllByRecursion (Named names) ds
  named all = named_by ds (λ p h. h) all

-- a line for one of `packages`
abbrev name_of : List PackageText → ℕ → Text
name_of packages p = option_map_or (λ x. x.name) (slice_get packages p) []

record IsLine (packages : List PackageText) (j : JoinText) : Type 0 where
  within : nat_lt j.number (length packages) ≡ true
  has_name : j.name ≡ name_of packages j.number

module _ (packages : List PackageText) where
  lines_if : (a : AloneText) (x : PackageText) → slice_get packages a.number ≡ Some x → (b : Bool) → AllByRecursion (IsLine packages) (cond b (join_of a x ∷ []) [])
  lines_if a x is true =
      (record { within = lt-ltb _ _ (slice_get_within packages a.number x is); has_name = sym (ap (λ o. option_map_or (λ (y : PackageText). y.name) o []) is) }, tt)
  lines_if a x is false = tt

  lines_by : (a : AloneText) (o : Option PackageText) → slice_get packages a.number ≡ o → AllByRecursion (IsLine packages) (option_map_or (join_if a) o [])
  lines_by a None is = tt
  lines_by a (Some x) is = lines_if a x is (is_from_default_registry x)

  lines_each : (alone : List AloneText) → AllByRecursion (IsLine packages) (joins_of packages alone)
  lines_each [] = tt
  lines_each (a ∷ more) = all_append (IsLine packages) (joins_at packages a) (joins_of packages more) (lines_by a (slice_get packages a.number) refl) (lines_each more)

  line_named : (ds : List DeclarationText) (j : JoinText) → IsLine packages j → Named (λ p. name_among p (name_of packages p) ds) (declaration_of ds j)
  line_named ds j line p is =
      let same : j.number ≡ p = cc in
      ap (λ t. name_among j.number t ds) line.has_name ∙ ap (λ k. name_among k (name_of packages k) ds) same

  module _ (joins : List JoinText) (all : AllByRecursion (IsLine packages) joins) where
    package_joined : (m : ℕ) (x : PackageText) → IsPackage (length packages) x → IsPackage (length packages) (joined_package joins m x)
    package_joined m x (sorted, firsts, within, one) =
        let ds = x.declarations in
        let count = length packages in
        let mine = filter (is_for m) joins in
        let lines = all_filtered (IsLine packages) (is_for m) joins all in
        let new = map (declaration_of ds) mine in
        let test = λ (d : DeclarationText). is_within count d.leads_to in
        let names = λ (p : ℕ). name_among p (name_of packages p) ds in
        let is_named = all_append (Named names) ds new (named ds (name_of packages) one) (all_mapped (Named names) (IsLine packages) (declaration_of ds) (line_named ds) mine lines) in (
          sorted,
          firsts,
          list_all-append test ds new ∙ and_from (list_all test ds) (list_all test new) within (passed test new (all_mapped (λ d. test d ≡ true) (IsLine packages) (declaration_of ds) (λ j line. line.within) mine lines)),
          one_name names (ds ++ new) (ds ++ new) is_named is_named,
        )

    packages_joined : (m : ℕ) (xs : List PackageText) → AllByRecursion (IsPackage (length packages)) xs → AllByRecursion (IsPackage (length packages)) (joined_from joins m xs)
    packages_joined m [] each = tt
    packages_joined m (x ∷ xs) (first, rest) = (package_joined m x first, packages_joined (m + 1) xs rest)

kept : {Y : Type 0} (g : PackageText → Y) (joins : List JoinText) → ((m : ℕ) (x : PackageText) → g (joined_package joins m x) ≡ g x) → (m : ℕ) (xs : List PackageText) → map g (joined_from joins m xs) ≡ map g xs
kept g joins same m [] = refl
kept g joins same m (x ∷ xs) = ap (λ y. y ∷ map g (joined_from joins (m + 1) xs)) (same m x) ∙ ap (λ ys. g x ∷ ys) (kept g joins same (m + 1) xs)

kept_length : (joins : List JoinText) (m : ℕ) (xs : List PackageText) → length (joined_from joins m xs) ≡ length xs
kept_length joins m [] = refl
kept_length joins m (x ∷ xs) = ap suc (kept_length joins (m + 1) xs)

is_workspace : (w : WorkspaceText) (alone : List AloneText) → IsWorkspace w → IsWorkspace (joined_workspace w alone)
is_workspace w alone (ids, packages, members, default_members, root) =
    let joins = joins_of w.packages alone in
    let after = joined_from joins 0 w.packages in
    let same : length w.packages ≡ length after = sym (kept_length joins 0 w.packages) in (
      subst (IsStrictlySortedBy text_cmp) (sym (kept (λ p. p.id) joins (λ m x. refl) 0 w.packages)) ids,
      subst (λ count. AllByRecursion (IsPackage count) after) same (packages_joined w.packages joins (lines_each w.packages alone) 0 w.packages packages),
      subst (λ count. IsTrue (list_all (λ n. nat_lt n count) w.members)) same members,
      subst (λ count. IsTrue (list_all (λ n. nat_lt n count) w.default_members)) same default_members,
      subst (λ count. IsTrue (is_within count w.root)) same root,
    )

-- the same of the parts of a joined workspace
pub made : (w : WorkspaceText) (alone : List AloneText) (joins : List JoinText) (packages : List PackageText) (members default_members : List ℕ) (root : Option ℕ) → joins ≡ joins_of w.packages alone
    → packages ≡ joined_packages joins w.packages → members ≡ w.members → default_members ≡ w.default_members → root ≡ w.root → IsWorkspace w
    → IsWorkspace (record { packages = packages; members = members; default_members = default_members; root = root })
made w alone joins packages members default_members root j p m d r is =
    let same : joined_workspace w alone ≡ record { packages = packages; members = members; default_members = default_members; root = root } =
    ap (λ (x : List PackageText). record { packages = x; members = w.members; default_members = w.default_members; root = w.root }) (sym (p ∙ ap (λ (x : List JoinText). joined_packages x w.packages) j))
    ∙ ap (λ (x : List ℕ). record { packages = packages; members = x; default_members = w.default_members; root = w.root }) (sym m)
    ∙ ap (λ (x : List ℕ). record { packages = packages; members = members; default_members = x; root = w.root }) (sym d)
    ∙ ap (λ (x : Option ℕ). record { packages = packages; members = members; default_members = default_members; root = x }) (sym r) in
    subst IsWorkspace same (is_workspace w alone is)
