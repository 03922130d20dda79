-- The effect of calls on the tables.
use Rattle.std.proofs.Common.{◌≡◌, ℕ, zero, suc, ◌+◌, ◌-◌, ◌<◌, List, [], ◌∷◌, ◌++◌, Bool, true, false, cond, ◌||◌, not, Some, Result, Ok, Err, IfErr, OnOk, map, length, set, get_or, refl, ap, sym, ◌∙◌, subst, arith}
use Rattle.std.specs.Prelude.{slice_get, slice_set}
use Rattle.std.specs.List.{list_any, position_or_len, zip}
use Rattle.std.specs.String.{string_bytes}
use Rattle.std.proofs.lemmas.List.{length-map, map-set}
use Rattle.std.proofs.lemmas.Option.{slice_get-get_or}
use Rattle.std.proofs.lemmas.Slice.Zip.{length-zip}
use Rattle.guppy_packages.specs.Rows.{Text, Declared}
use Rattle.guppy_packages.specs.Tables.{LinkTable, PackageTable}
use Rattle.guppy_packages.specs.inner.Steps.{Outcome, Takes, add_link, add_name, change_last, joined_link, joins, result_map, with_name}
use Rattle.guppy_packages.specs.Stored.{package_table}
use Rattle.guppy_packages.specs.declared.row_error.RowFault.TheVariants.{NoPackage, DuplicatePackage, DuplicateFeature, UnknownTarget, OtherName, Memory}
use Rattle.guppy_packages.specs.declared.contents.PackageData.{PackageData}
use Rattle.guppy_packages.proofs.Lists.{slice_get-map}
use Rattle.guppy_packages.proofs.PairLemmas.{zip_at, zip_changed}

-- the effect of a call on a part, for the whole
pub Takes-map : {A B C : Type 0} (f : A → B) (new : A) (result : Outcome C) (given : Outcome A) → Takes new result given → Takes (f new) result (result_map f given)
Takes-map f new (Ok x) given h = ap (result_map f) h
Takes-map f new (Err NoPackage) given h = ap (result_map f) h
Takes-map f new (Err DuplicatePackage) given h = ap (result_map f) h
Takes-map f new (Err DuplicateFeature) given h = ap (result_map f) h
Takes-map f new (Err UnknownTarget) given h = ap (result_map f) h
Takes-map f new (Err OtherName) given h = ap (result_map f) h
Takes-map f new (Err Memory) given h = tt

-- the last package: ids and contents are two lists
module _ (ids : List Text) (ds : List PackageData) (even : length ds ≡ length ids) (n : ℕ) (long : n ≡ length ds) (some : 0 < n) (d : PackageData) where
  pub last_at : d ≡ get_or ds (n - 1) d → (id : Text) × (slice_get (zip ids ds) (length (zip ids ds) - 1) ≡ Some (id, d))
  last_at is =
      let k = length ds - 1 in
      let place : length (zip ids ds) - 1 ≡ k = omega (arith, length-zip ids ds) in
      let back : n - 1 ≡ k = omega arith in
      let id = slice_get-get_or ids k [] (omega arith) in
      let datum = slice_get-get_or ds k d (omega arith) ∙ ap Some (ap (λ j. get_or ds j d) (sym back) ∙ sym is) in
      (get_or ids k [], ap (slice_get (zip ids ds)) place ∙ zip_at ids ds k (get_or ids k []) d id datum)

  -- its contents replaced by others
  pub last_put : (id : Text) (new : PackageData) → slice_get (zip ids ds) (length (zip ids ds) - 1) ≡ Some (id, d) → zip ids (set ds (n - 1) new) ≡ set (zip ids ds) (length (zip ids ds) - 1) (id, new)
  last_put id new at =
      let place : n - 1 ≡ length (zip ids ds) - 1 = omega (arith, length-zip ids ds) in
      ap (λ j. zip ids (set ds j new)) place ∙ zip_changed ids ds (length (zip ids ds) - 1) id d new at

-- a write to the last package
pub last_changed : {C : Type 0} (es : List (Text × PackageData)) (e new : Text × PackageData) (change : PackageTable → Outcome PackageTable) (result : Outcome C)
    → slice_get es (length es - 1) ≡ Some e
    → Takes (package_table new) result (change (package_table e))
    → Takes (map package_table (set es (length es - 1) new)) result (change_last change (map package_table es))
last_changed es e new change result at taken =
    rw (map-set package_table es (length es - 1) new, length-map es package_table, slice_get-map package_table es (length es - 1) e at) (Takes-map (slice_set (map package_table es) (length es - 1)) _ result _ taken)

-- a Dep row in the first pass: the last package's optional names, if it is optional
pub name_noted : {C : Type 0} (es : List (Text × PackageData)) (e new : Text × PackageData) (name : Text) (names : List Text) (optional : Bool) (result : Outcome C)
    → slice_get es (length es - 1) ≡ Some e → optional ≡ true
    → package_table new ≡ record (package_table e) { optional_names = names }
    → Takes names result (Ok (with_name name (map string_bytes e.1.optional_names)))
    → Takes (map package_table (set es (length es - 1) new)) result (change_last (λ p. Ok (add_name name optional p)) (map package_table es))
name_noted es e new name names false result at o same taken = cc
name_noted es e new name names true result at o same taken =
    last_changed es e new (λ p. Ok (add_name name true p)) result at (rw same (Takes-map (λ ns. record (package_table e) { optional_names = ns }) names result _ taken))

pub not_noted : (es : List (Text × PackageData)) (e : Text × PackageData) (name : Text) (optional : Bool)
    → slice_get es (length es - 1) ≡ Some e → optional ≡ false
    → change_last (λ p. Ok (add_name name optional p)) (map package_table es) ≡ Ok (map package_table (set es (length es - 1) e))
not_noted es e name true at o = cc
not_noted es e name false at o = last_changed {C = ℕ} es e e (λ p. Ok p) (Ok 0) at refl

result_map-twice : {A B C E : Type 0} (f : B → C) (g : A → B) (r : Result A E) → result_map f (result_map g r) ≡ result_map (λ x. f (g x)) r
result_map-twice f g (Ok x) = refl
result_map-twice f g (Err e) = refl

module _ (from to : ℕ) (name : Text) (d : Declared) where
  abbrev new_link : LinkTable
  new_link = record { from = from; to = to; name = name; declarations = d ∷ [] }

  -- no link has the pair
  pub link_new : (ls : List LinkTable) → list_any (joins from to) ls ≡ false → add_link from to name d ls ≡ Ok (ls ++ new_link ∷ [])
  link_new [] h = refl
  link_new (l ∷ ls) h = go (joins from to l) refl h (λ p. link_new ls p)
    where
      go : (b : Bool) → joins from to l ≡ b → b || list_any (joins from to) ls ≡ false → (list_any (joins from to) ls ≡ false → add_link from to name d ls ≡ Ok (ls ++ new_link ∷ [])) → add_link from to name d (l ∷ ls) ≡ Ok (l ∷ (ls ++ new_link ∷ []))
      go true t p more = cc
      go false t p more = rw (t, more p)

  -- the link of the pair, at its index
  link_at : (ls : List LinkTable) (i : ℕ) (l : LinkTable) → position_or_len (joins from to) ls ≡ i → slice_get ls i ≡ Some l
      → add_link from to name d ls ≡ result_map (slice_set ls i) (joined_link name d l)
  link_at [] i l p g = cc
  link_at (x ∷ ls) i l p g = go (joins from to x) refl i p g (λ j p g. link_at ls j l p g)
    where
      go : (b : Bool) → joins from to x ≡ b → (j : ℕ) → cond (not b) (1 + position_or_len (joins from to) ls) 0 ≡ j → slice_get (x ∷ ls) j ≡ Some l
          → ((k : ℕ) → position_or_len (joins from to) ls ≡ k → slice_get ls k ≡ Some l → add_link from to name d ls ≡ result_map (slice_set ls k) (joined_link name d l))
          → add_link from to name d (x ∷ ls) ≡ result_map (slice_set (x ∷ ls) j) (joined_link name d l)
      go true t zero p g more =
          let here : x ≡ l = cc in
          rw (t, here)
      go true t (suc j) p g more = absurd (omega arith)
      go false t zero p g more = absurd (omega arith)
      go false t (suc j) p g more =
          let at : position_or_len (joins from to) ls ≡ j = omega arith in
          rw (t, more j at g) (result_map-twice (λ rest. x ∷ rest) (slice_set ls j) (joined_link name d l))

  -- a declaration is appended to the link of the pair
  pub link_joined : {C : Type 0} (ls : List LinkTable) (i : ℕ) (l new : LinkTable) (result : Outcome C) → position_or_len (joins from to) ls ≡ i → slice_get ls i ≡ Some l
      → Takes new result (joined_link name d l) → Takes (slice_set ls i new) result (add_link from to name d ls)
  link_joined ls i l new result p g taken =
      subst (λ o. Takes (slice_set ls i new) result o) (sym (link_at ls i l p g)) (Takes-map (slice_set ls i) new result (joined_link name d l) taken)

  -- a link is appended, or an allocation failed
  pub link_begun : {C : Type 0} (ls new : List LinkTable) (result : Outcome C) → list_any (joins from to) ls ≡ false
      → OnOk result (new ≡ ls ++ new_link ∷ []) → IfErr result (λ fault. fault ≡ Memory) → Takes new result (add_link from to name d ls)
  link_begun ls new (Ok x) none made fault = link_new ls none ∙ ap Ok (sym made)
  link_begun {C} ls new (Err e) none made fault = subst (λ f. Takes {A = C} new (Err f) (add_link from to name d ls)) (sym fault) tt
