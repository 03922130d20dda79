-- Entries whose rows have tables.
use Rattle.std.proofs.Common.{◌≡◌, ℕ, zero, suc, ◌+◌, ◌<◌, ◌^◌, List, [], ◌∷◌, ◌++◌, Bool, true, false, not, ◌&&◌, ◌||◌, ◌==◌, Option, None, Some, is_ok, length, map, nat_eq, codes, refl, ap, sym, ◌∙◌, arith, bytes_eq}
use Rattle.std.specs.Prelude.{nat_lt}
use Rattle.std.specs.Cmp.Lexicographic.{bytes_decides, nat_list_eq_equiv}
use Rattle.std.specs.List.{list_all, list_any, cons_option, AllByRecursion}
use Rattle.std.specs.List.Sorted.{IsStrictlySortedBy}
use Rattle.std.specs.Option.{option_map, option_map_or, option_and_then}
use Rattle.std.specs.Ordering.{is_eq}
use Rattle.std.specs.declared.cmp.Ordering.TheVariants.{Less}
use Rattle.std.proofs.lemmas.Map.Text.{is_eq-slice_cmp}
use Rattle.std.specs.Fmt.{decimal}
use Rattle.guppy_packages.specs.Graph.{packages_of, tables_of}
use Rattle.guppy_packages.specs.Tables.{package_place}
use Rattle.guppy_packages.proofs.Apart.{AreApart-map, AreApart-push}
use Rattle.guppy_packages.proofs.Firsts.{AreApart}
use Rattle.cargo_workspaces.specs.Workspaces.{Text, DeclarationText, FeatureText, IsPackage, PackageText, both_lead_to, is_other_name, is_within, may_name_feature, text_cmp}
use Rattle.plan_rows.specs.Commands.{are_commands, command_of}
use Rattle.plan_rows.specs.Steps.{dependencies_by, dependency_as, gated_feature, number_if}
use Rattle.plan_rows.specs.Tables.{Dependency, Entry, each_from, rows_of}
use Rattle.plan_rows.proofs.Lists.{both}
use Rattle.plan_rows.proofs.Sound.{tables-sound}
use Rattle.plan_rows.proofs.RowFaults.{rows_sound, same_name}
use Rattle.plan_rows.proofs.LinkFaults.{IsLinked, is_renamed, links_sound, place-is}

-- an entry of a table of `count` entries
abbrev pub IsEntry : ℕ → Entry → Type 0
IsEntry count e =
    AreApart same_name e.features
    × (list_all (λ d. nat_lt d.to count) e.dependencies ≡ true)
    × AllByRecursion (λ d. list_any (is_renamed d) e.dependencies ≡ false) e.dependencies

all_weaker : {X : Type 0} (P Q : X → Type 0) (xs : List X) → ((x : X) → P x → Q x) → AllByRecursion P xs → AllByRecursion Q xs
all_weaker P Q [] f a = tt
all_weaker P Q (x ∷ xs) f a = (f x a.0, all_weaker P Q xs f a.1)

pub all-append : {X : Type 0} (P : X → Type 0) (xs ys : List X) → AllByRecursion P xs → AllByRecursion P ys → AllByRecursion P (xs ++ ys)
all-append P [] ys a b = b
all-append P (x ∷ xs) ys a b = (a.0, all-append P xs ys a.1 b)

pub all-each : {X Y : Type 0} (P : Y → Type 0) (Q : X → Type 0) (f : ℕ → X → Y) → ((k : ℕ) (x : X) → Q x → P (f k x)) → (k : ℕ) (xs : List X) → AllByRecursion Q xs → AllByRecursion P (each_from f k xs)
all-each P Q f step k [] a = tt
all-each P Q f step k (x ∷ xs) a = (step k x a.0, all-each P Q f step (k + 1) xs a.1)

less_from : (n m : ℕ) → nat_lt n m ≡ true → n < m
less_from n m h = grind arith

lead_all : (es : List Entry) → length es < 2 ^ 64 → (ds : List Dependency) → list_all (λ d. nat_lt d.to (length es)) ds ≡ true → AllByRecursion (λ d. package_place (decimal d.to) (packages_of (rows_of es)) ≡ Some d.to) ds
lead_all es small [] h = tt
lead_all es small (d ∷ ds) h =
    let parts = both (nat_lt d.to (length es)) (list_all (λ e. nat_lt e.to (length es)) ds) h in
    (place-is es d.to (less_from d.to (length es) parts.0) small, lead_all es small ds parts.1)

-- the rows of entries have tables
pub entries_tables : (es : List Entry) → length es < 2 ^ 64 → AllByRecursion (IsEntry (length es)) es → is_ok (tables_of (rows_of es)) ≡ true
entries_tables es small a =
    let names = all_weaker (IsEntry (length es)) (λ e. AreApart same_name e.features) es (λ e h. h.0) a in
    let linked = all_weaker (IsEntry (length es)) (IsLinked (packages_of (rows_of es))) es (λ e h. (lead_all es small e.dependencies h.1, h.2)) a in
    tables-sound (rows_of es) (rows_sound es small names) (links_sound (packages_of (rows_of es)) es linked)

-- features in the order of their names have different names
less_apart : (xs ys : Text) → text_cmp xs ys ≡ Less → bytes_eq ys xs ≡ false
less_apart xs ys h = nat_list_eq_equiv.symm ys xs ∙ sym (is_eq-slice_cmp xs ys) ∙ ap is_eq h

after_first : (f : FeatureText) (fs : List FeatureText) → AllByRecursion (λ y. text_cmp f.name y ≡ Less) (map (λ g. g.name) fs) → list_any (λ g. bytes_eq g.name f.name) fs ≡ false
after_first f [] a = refl
after_first f (g ∷ fs) a = rw (less_apart f.name g.name a.0, after_first f fs a.1) refl

pub sorted_apart : (fs : List FeatureText) → IsStrictlySortedBy text_cmp (map (λ f. f.name) fs) → AreApart same_name fs
unfolding IsStrictlySortedBy
sorted_apart [] h = tt
sorted_apart (f ∷ fs) h = (after_first f fs h.0, sorted_apart fs h.1)

-- a command's name is none of a package's features
not_feature : (c f : FeatureText) → bytes_eq c.name (codes "[command]") ≡ true → may_name_feature f.name ≡ true → bytes_eq c.name f.name ≡ false
not_feature c f command named = go (bytes_eq c.name f.name) refl
  where
    go : (b : Bool) → bytes_eq c.name f.name ≡ b → b ≡ false
    go false e = refl
    go true e =
        let first : c.name ≡ codes "[command]" = (bytes_decides c.name (codes "[command]")).0 command in
        let second : c.name ≡ f.name = (bytes_decides c.name f.name).0 e in
        sym named ∙ ap may_name_feature (sym second ∙ first)

not_features : (c : FeatureText) (fs : List FeatureText) → bytes_eq c.name (codes "[command]") ≡ true → list_all (λ f. may_name_feature f.name) fs ≡ true → list_any (same_name c) fs ≡ false
not_features c [] command h = refl
not_features c (f ∷ fs) command h =
    let parts = both (may_name_feature f.name) (list_all (λ g. may_name_feature g.name) fs) h in
    rw (not_feature c f command parts.0, not_features c fs command parts.1) refl

pub apart_command : (c : FeatureText) (fs : List FeatureText) → AreApart same_name fs → bytes_eq c.name (codes "[command]") ≡ true → list_all (λ f. may_name_feature f.name) fs ≡ true → AreApart same_name (fs ++ c ∷ [])
apart_command c fs a command h = AreApart-push same_name fs c a (not_features c fs command h)

pub apart_gated : (fs : List FeatureText) → AreApart same_name fs → AreApart same_name (map gated_feature fs)
apart_gated fs a = AreApart-map gated_feature same_name fs a

abbrev pub is_command : Option FeatureText → Bool
is_command c = option_map_or (λ f. bytes_eq f.name (codes "[command]")) c true

pub command-is : (commands : List (Option FeatureText)) (p : ℕ) → are_commands commands ≡ true → is_command (command_of commands p) ≡ true
command-is [] p h = refl
command-is (c ∷ cs) zero h = (both (is_command c) (list_all is_command cs) h).0
command-is (c ∷ cs) (suc p) h = command-is cs p (both (is_command c) (list_all is_command cs) h).1

pub number_is : (test : Bool) (n t : ℕ) → number_if test n ≡ Some t → n ≡ t
number_is true n t h = cc
number_is false n t h = cc

name_as : (plain : Bool) (d : DeclarationText) (t : ℕ) → (dependency_as plain d t).name ≡ d.name
name_as true d t = refl
name_as false d t = refl

to_as : (plain : Bool) (d : DeclarationText) (t : ℕ) → (dependency_as plain d t).to ≡ t
to_as true d t = refl
to_as false d t = refl

-- two declarations that lead to one entry lead to one package, and so have one name
clash : (q r t u : ℕ) (a b : Text) → (t ≡ u → q ≡ r) → (nat_eq q r && not (bytes_eq b a)) ≡ false → ((t == u) && not (bytes_eq a b)) ≡ false
clash q r t u a b one h = go (t == u) refl
  where
    go : (e : Bool) → (t == u) ≡ e → (e && not (bytes_eq a b)) ≡ false
    go false s = refl
    go true s =
        let same : t ≡ u = grind arith in
        let equal : q ≡ r = one same in
        let known : nat_eq q r ≡ true = grind arith in
        let named : not (bytes_eq b a) ≡ false = ap (λ z. z && not (bytes_eq b a)) (sym known) ∙ h in
        ap not (nat_list_eq_equiv.symm a b) ∙ named

-- where `lead` leads from one of `n` packages to one of `count` entries, and `back` is the package of an entry
module _ (n count : ℕ) (plain : Bool) (lead : DeclarationText → ℕ → Option ℕ) (back : ℕ → ℕ) (leads : (d : DeclarationText) (q t : ℕ) → q < n → lead d q ≡ Some t → (t < count) × (back t ≡ q)) where
  abbrev made : DeclarationText → Option ℕ → Option Dependency
  made d o = option_map (dependency_as plain d) (option_and_then (lead d) o)

  within : (ds : List DeclarationText) → list_all (λ d. is_within n d.leads_to) ds ≡ true → list_all (λ e. nat_lt e.to count) (dependencies_by plain lead ds) ≡ true
  within [] h = refl
  within (d ∷ ds) h =
      let parts = both (is_within n d.leads_to) (list_all (λ e. is_within n e.leads_to) ds) h in
      go d.leads_to parts.0 (within ds parts.1)
    where
      rest : List Dependency
      rest = dependencies_by plain lead ds

      next : (q : ℕ) → q < n → (r : Option ℕ) → lead d q ≡ r → list_all (λ e. nat_lt e.to count) rest ≡ true → list_all (λ e. nat_lt e.to count) (cons_option (option_map (dependency_as plain d) r) rest) ≡ true
      next q below None is more = more
      next q below (Some t) is more =
          let inside : t < count = (leads d q t below is).0 in
          let test : nat_lt t count ≡ true = grind arith in
          rw (to_as plain d t, test, more) refl

      go : (o : Option ℕ) → is_within n o ≡ true → list_all (λ e. nat_lt e.to count) rest ≡ true → list_all (λ e. nat_lt e.to count) (cons_option (made d o) rest) ≡ true
      go None h more = more
      go (Some q) h more = next q (less_from q n h) (lead d q) refl more

  none_renamed : (d : DeclarationText) (q t : ℕ) → d.leads_to ≡ Some q → back t ≡ q → (ds : List DeclarationText) → list_all (λ e. is_within n e.leads_to) ds ≡ true → list_any (is_other_name d) ds ≡ false
      → list_any (is_renamed (dependency_as plain d t)) (dependencies_by plain lead ds) ≡ false
  none_renamed d q t to at [] inside named = refl
  none_renamed d q t to at (e ∷ ds) inside named =
      let parts = both (is_within n e.leads_to) (list_all (λ x. is_within n x.leads_to) ds) inside in
      first (is_other_name d e) refl named parts.0 (none_renamed d q t to at ds parts.1)
    where
      rest : List Dependency
      rest = dependencies_by plain lead ds

      next : (r : ℕ) → r < n → e.leads_to ≡ Some r → (u : Option ℕ) → lead e r ≡ u → is_other_name d e ≡ false → list_any (is_renamed (dependency_as plain d t)) rest ≡ false
          → list_any (is_renamed (dependency_as plain d t)) (cons_option (option_map (dependency_as plain e) u) rest) ≡ false
      next r below from None is other more = more
      next r below from (Some u) is other more =
          let back_u : back u ≡ r = (leads e r u below is).1 in
          let names : (nat_eq q r && not (bytes_eq e.name d.name)) ≡ false = ap (λ o. both_lead_to (Some q) o && not (bytes_eq e.name d.name)) (sym from) ∙ ap (λ o. both_lead_to o e.leads_to && not (bytes_eq e.name d.name)) (sym to) ∙ other in
          let fine : ((t == u) && not (bytes_eq d.name e.name)) ≡ false = clash q r t u d.name e.name (λ s. sym at ∙ ap back s ∙ back_u) names in
          rw (to_as plain d t, to_as plain e u, name_as plain d t, name_as plain e u, fine, more) refl

      go : (o : Option ℕ) → e.leads_to ≡ o → is_within n o ≡ true → is_other_name d e ≡ false → list_any (is_renamed (dependency_as plain d t)) rest ≡ false → list_any (is_renamed (dependency_as plain d t)) (cons_option (made e o) rest) ≡ false
      go None from h other more = more
      go (Some r) from h other more = next r (less_from r n h) from (lead e r) refl other more

      first : (b : Bool) → is_other_name d e ≡ b → b || list_any (is_other_name d) ds ≡ false → is_within n e.leads_to ≡ true → (list_any (is_other_name d) ds ≡ false → list_any (is_renamed (dependency_as plain d t)) rest ≡ false)
          → list_any (is_renamed (dependency_as plain d t)) (cons_option (made e e.leads_to) rest) ≡ false
      first true s h inside more = cc
      first false s h inside more = go e.leads_to refl inside s (more h)

  -- the dependencies of a package's declarations have one name for each entry
  named : (all : List DeclarationText) → list_all (λ d. is_within n d.leads_to) all ≡ true → (ds : List DeclarationText) → list_all (λ d. is_within n d.leads_to) ds ≡ true → list_all (λ d. not (list_any (is_other_name d) all)) ds ≡ true
      → AllByRecursion (λ d. list_any (is_renamed d) (dependencies_by plain lead all) ≡ false) (dependencies_by plain lead ds)
  named all inside [] below h = tt
  named all inside (d ∷ ds) below h =
      let parts = both (not (list_any (is_other_name d) all)) (list_all (λ e. not (list_any (is_other_name e) all)) ds) h in
      let ranges = both (is_within n d.leads_to) (list_all (λ e. is_within n e.leads_to) ds) below in
      go d.leads_to refl ranges.0 (not_true (list_any (is_other_name d) all) parts.0) (named all inside ds ranges.1 parts.1)
    where
      not_true : (b : Bool) → not b ≡ true → b ≡ false
      not_true true h = cc
      not_true false h = refl

      next : (q : ℕ) → q < n → d.leads_to ≡ Some q → (r : Option ℕ) → lead d q ≡ r → list_any (is_other_name d) all ≡ false → AllByRecursion (λ e. list_any (is_renamed e) (dependencies_by plain lead all) ≡ false) (dependencies_by plain lead ds)
          → AllByRecursion (λ e. list_any (is_renamed e) (dependencies_by plain lead all) ≡ false) (cons_option (option_map (dependency_as plain d) r) (dependencies_by plain lead ds))
      next q below to None is other more = more
      next q below to (Some t) is other more = (none_renamed d q t to (leads d q t below is).1 all inside other, more)

      go : (o : Option ℕ) → d.leads_to ≡ o → is_within n o ≡ true → list_any (is_other_name d) all ≡ false → AllByRecursion (λ e. list_any (is_renamed e) (dependencies_by plain lead all) ≡ false) (dependencies_by plain lead ds)
          → AllByRecursion (λ e. list_any (is_renamed e) (dependencies_by plain lead all) ≡ false) (cons_option (made d o) (dependencies_by plain lead ds))
      go None to h other more = more
      go (Some q) to h other more = next q (less_from q n h) to (lead d q) refl other more

  -- an entry with the dependencies of a package
  pub entry_is : (x : PackageText) (fs : List FeatureText) → IsPackage n x → AreApart same_name fs → IsEntry count (record { features = fs; dependencies = dependencies_by plain lead x.declarations })
  entry_is x fs is apart = (apart, within x.declarations is.2, named x.declarations is.2 x.declarations is.2 is.3)
