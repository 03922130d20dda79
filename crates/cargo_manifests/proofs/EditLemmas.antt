-- An edited workspace satisfies the rules of workspaces.
use Rattle.std.proofs.Common.{◌≡◌, ◌∙◌, refl, ap, sym, subst, ℕ, suc, ◌+◌, List, [], ◌∷◌, Bool, true, false, ◌&&◌, ◌||◌, cond, map, length, nat_lt, not, Option}
use Rattle.std.specs.Prelude.{IsTrue}
use Rattle.std.specs.List.{AllByRecursion, list_all, list_any}
use Rattle.std.specs.List.Sorted.{IsStrictlySortedBy}
use Rattle.cargo_workspaces.specs.Workspaces.{DeclarationText, IsPackage, IsWorkspace, PackageText, WorkspaceText, is_other_name, is_within, text_cmp}
use Rattle.cargo_manifests.specs.inherited.Inheritances.{InheritanceText}
use Rattle.cargo_manifests.specs.Edits.{EditText, declaration_after, edited_declaration, edited_package, edited_packages, edited_text, is_changed, numbered}

-- what changes keep of each item
kept : {X Y : Type 0} (g : X → Y) (change : ℕ → X → X) → ((n : ℕ) (x : X) → g (change n x) ≡ g x) → (k : ℕ) (xs : List X) → map g (numbered change k xs) ≡ map g xs
kept g change same k [] = refl
kept g change same k (x ∷ xs) = ap (λ y. y ∷ map g (numbered change (k + 1) xs)) (same k x) ∙ ap (λ ys. g x ∷ ys) (kept g change same (k + 1) xs)

kept_length : {X : Type 0} (change : ℕ → X → X) (k : ℕ) (xs : List X) → length (numbered change k xs) ≡ length xs
kept_length change k [] = refl
kept_length change k (x ∷ xs) = ap suc (kept_length change (k + 1) xs)

-- a test that changes keep
all_kept : {X : Type 0} (before after : X → Bool) (change : ℕ → X → X) → ((x : X) → after x ≡ before x) → ((n : ℕ) (x : X) → before (change n x) ≡ before x) → (k : ℕ) (xs : List X)
    → list_all after (numbered change k xs) ≡ list_all before xs
all_kept before after change same keeps k [] = refl
all_kept before after change same keeps k (x ∷ xs) =
    ap (λ b. b && list_all after (numbered change (k + 1) xs)) (same (change k x) ∙ keeps k x)
    ∙ ap (λ b. before x && b) (all_kept before after change same keeps (k + 1) xs)

any_kept : {X : Type 0} (test : X → Bool) (change : ℕ → X → X) → ((n : ℕ) (x : X) → test (change n x) ≡ test x) → (k : ℕ) (xs : List X) → list_any test (numbered change k xs) ≡ list_any test xs
any_kept test change keeps k [] = refl
any_kept test change keeps k (x ∷ xs) =
    ap (λ b. b || list_any test (numbered change (k + 1) xs)) (keeps k x) ∙ ap (λ b. test x || b) (any_kept test change keeps (k + 1) xs)

-- what a declaration that may be changed keeps
maybe_kept : {Y : Type 0} (g : DeclarationText → Y) (change : DeclarationText → DeclarationText) → ((x : DeclarationText) → g (change x) ≡ g x) → (b : Bool) (d : DeclarationText) → g (cond b (change d) d) ≡ g d
maybe_kept g change same true d = same d
maybe_kept g change same false d = refl

after_kept : {Y : Type 0} (g : DeclarationText → Y) (i : InheritanceText) (e : EditText) (p : ℕ) → ((x : DeclarationText) → g (edited_declaration e.without x) ≡ g x)
    → (n : ℕ) (d : DeclarationText) → g (declaration_after i e p n d) ≡ g d
after_kept g i e p same n d = maybe_kept g (edited_declaration e.without) same (is_changed i e p n d) d

-- an edited package satisfies the rules
package_kept : (count : ℕ) (i : InheritanceText) (e : EditText) (n : ℕ) (p : PackageText) → IsPackage count p → IsPackage count (edited_package i e n p)
package_kept count i e n p (sorted, names, within, one_name) =
    let change = declaration_after i e n in
    let test = λ (ds : List DeclarationText) (d : DeclarationText). not (list_any (is_other_name d) ds) in
    let others : (d : DeclarationText) → test (numbered change 0 p.declarations) d ≡ test p.declarations d =
    λ d. ap not (any_kept (is_other_name d) change (after_kept (is_other_name d) i e n (λ x. refl)) 0 p.declarations) in (
      sorted,
      names,
      subst IsTrue (sym (all_kept (λ d. is_within count d.leads_to) (λ d. is_within count d.leads_to) change (λ d. refl) (after_kept (λ d. is_within count d.leads_to) i e n (λ x. refl)) 0 p.declarations)) within,
      subst IsTrue (sym (all_kept (test p.declarations) (test (numbered change 0 p.declarations)) change others (after_kept (test p.declarations) i e n (λ x. refl)) 0 p.declarations)) one_name,
    )

packages_kept : (count : ℕ) (i : InheritanceText) (e : EditText) (k : ℕ) (ps : List PackageText) → AllByRecursion (IsPackage count) ps → AllByRecursion (IsPackage count) (numbered (edited_package i e) k ps)
packages_kept count i e k [] all = tt
packages_kept count i e k (p ∷ ps) (first, rest) = (package_kept count i e k p first, packages_kept count i e (k + 1) ps rest)

is_workspace : (w : WorkspaceText) (i : InheritanceText) (e : EditText) → IsWorkspace w → IsWorkspace (edited_text w i e)
is_workspace w i e (ids, packages, members, default_members, root) =
    let after = numbered (edited_package i e) 0 w.packages in
    let same : length w.packages ≡ length after = sym (kept_length (edited_package i e) 0 w.packages) in (
      subst (IsStrictlySortedBy text_cmp) (sym (kept (λ p. p.id) (edited_package i e) (λ n p. refl) 0 w.packages)) ids,
      subst (λ count. AllByRecursion (IsPackage count) after) same (packages_kept (length w.packages) i e 0 w.packages packages),
      subst (λ count. IsTrue (list_all (λ n. nat_lt n count) w.members)) same members,
      subst (λ count. IsTrue (list_all (λ n. nat_lt n count) w.default_members)) same default_members,
      subst (λ count. IsTrue (is_within count w.root)) same root,
    )

-- the same of the parts of an edited workspace
pub made : (w : WorkspaceText) (i : InheritanceText) (e : EditText) (packages : List PackageText) (members default_members : List ℕ) (root : Option ℕ) → packages ≡ edited_packages i e w.packages
    → members ≡ w.members → default_members ≡ w.default_members → root ≡ w.root → IsWorkspace w
    → IsWorkspace (record { packages = packages; members = members; default_members = default_members; root = root })
made w i e packages members default_members root p m d r is =
    let same : edited_text w i e ≡ record { packages = packages; members = members; default_members = default_members; root = root } =
    ap (λ (x : List PackageText). record { packages = x; members = w.members; default_members = w.default_members; root = w.root }) (sym p)
    ∙ ap (λ (x : List ℕ). record { packages = packages; members = x; default_members = w.default_members; root = w.root }) (sym m)
    ∙ ap (λ (x : List ℕ). record { packages = packages; members = members; default_members = x; root = w.root }) (sym d)
    ∙ ap (λ (x : Option ℕ). record { packages = packages; members = members; default_members = default_members; root = x }) (sym r) in
    subst IsWorkspace same (is_workspace w i e is)
