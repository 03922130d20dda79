-- Maps from ids, by their entries: look-up, insertion, and reading one more item into them.
use Rattle.std.proofs.Common.{◌≡◌, ◌∙◌, sym, ap, refl, ℕ, ◌+◌, ◌-◌, ◌<◌, ◌≤◌, arith, length-append, List, [], ◌∷◌, ◌++◌, reverse, length, drop, get_or, Bool, true, false, cond, add-one, drop-cons, Bor}
use Rattle.std.specs.Prelude.{Option, Some, None, option_map, Result, Ok, Err, is_some}
use Rattle.std.specs.Ordering.{nat_cmp, is_eq, match_ordering}
use Rattle.std.specs.declared.cmp.Ordering.{Ordering}
use Rattle.std.specs.declared.cmp.Ordering.TheVariants.{Less, Equal, Greater}
use Rattle.std.specs.Cmp.Lexicographic.{slice_cmp}
use Rattle.std.specs.Str.{bytes_eq}
use Rattle.std.specs.Map.{lookup}
use Rattle.std.specs.BTreeMap.{insert_entry}
use Rattle.std.proofs.lemmas.List.{reverse-append}
use Rattle.std.proofs.lemmas.Map.Text.{is_eq-slice_cmp}
use Rattle.std.specs.declared.alloc.Global.{Global}
use Rattle.json.specs.Json.{Json, Items, item, member}
use Rattle.json.specs.Value.{value_view, items_view, members_view}
use Rattle.json.specs.declared.value.Value.{Value}
use Rattle.cargo_json.specs.declared.fault.Place.{Place}
use Rattle.cargo_json.specs.declared.fault.Place.TheVariants as place
use Rattle.cargo_json.specs.Faults.{Text, Refusal, repeated, IfNotMemory}
use Rattle.workspace_documents.specs.Lists.{ById, id_cmp, at_id, each_by_id}
use Rattle.workspace_documents.specs.Packages.{PackageText, package_in, package_with_id, sorted}
use Rattle.workspace_documents.specs.Views.{entries_view}
use Rattle.workspace_documents.specs.inner.Keys.{key_cmp}
use Rattle.workspace_documents.proofs.Lists.{if_not_memory}

abbrev pub shown_value : Bor (Value Global) → Json
shown_value v = value_view v.now

module _ {X Y : Type 0} (shown : X → Y) where
  chosen : (b : Bool) (v : X) (o : Option X) (p : Option Y) → p ≡ option_map shown o → cond b (Some (shown v)) p ≡ option_map shown (cond b (Some v) o)
  chosen true v o p e = refl
  chosen false v o p e = e

  pub at_id-entries : (q : Text) (es : List (Bor Text × X)) → at_id q (entries_view shown es) ≡ option_map shown (lookup (λ k. is_eq (slice_cmp nat_cmp q k.now)) es)
  at_id-entries q [] = refl
  at_id-entries q (e ∷ es) = rw (is_eq-slice_cmp q e.0.now) (chosen (bytes_eq q e.0.now) e.1 _ _ (at_id-entries q es))

  placed : (o : Ordering) (k : Bor Text) (v : X) (e : Bor Text × X) (es more : List (Bor Text × X)) (all : ById Y) → entries_view shown more ≡ all → entries_view shown (match_ordering o ((k, v) ∷ e ∷ es) ((e.0, v) ∷ es) (e ∷ more)) ≡ match_ordering o ((k.now, shown v) ∷ (e.0.now, shown e.1) ∷ entries_view shown es) ((e.0.now, shown v) ∷ entries_view shown es) ((e.0.now, shown e.1) ∷ all)
  placed Less k v e es more all h = refl
  placed Equal k v e es more all h = refl
  placed Greater k v e es more all h = ap (λ xs. (e.0.now, shown e.1) ∷ xs) h

  pub entries-insert_entry : (es : List (Bor Text × X)) (k : Bor Text) (v : X) → entries_view shown (insert_entry key_cmp es k v) ≡ insert_entry id_cmp (entries_view shown es) k.now (shown v)
  entries-insert_entry [] k v = refl
  entries-insert_entry (e ∷ es) k v = placed (key_cmp k e.0) k v e es _ _ (entries-insert_entry es k v)

  mapped_some : (o : Option X) → is_some (option_map shown o) ≡ is_some o
  mapped_some None = refl
  mapped_some (Some x) = refl

  is_some-entries : (q : Text) (es : List (Bor Text × X)) (o : Option X) (b : Bool) → o ≡ lookup (λ k. is_eq (slice_cmp nat_cmp q k.now)) es → is_some o ≡ b → is_some (at_id q (entries_view shown es)) ≡ b
  is_some-entries q es o b e h = ap is_some (at_id-entries q es ∙ ap (option_map shown) (sym e)) ∙ mapped_some o ∙ h

  module _ (read : ℕ → Json → Result (Text × Y) Refusal) (place : ℕ → Place) (i : ℕ) (d : Json) (ds : Items) (k : Bor Text) (x : X) (o : Option X) (es : List (Bor Text × X)) (whole : Result (ById Y) Refusal) (was_read : read i d ≡ Ok (k.now, shown x)) (old : o ≡ lookup (λ q. is_eq (slice_cmp nat_cmp k.now q.now)) es) (so : whole ≡ each_by_id read place i (entries_view shown es) (item d ds)) where
    pub next_by_id : (new : List (Bor Text × X)) → is_some o ≡ false → new ≡ insert_entry key_cmp es k x → whole ≡ each_by_id read place (i + 1) (entries_view shown new) ds
    next_by_id new absent grown =
        let known : entries_view shown new ≡ insert_entry id_cmp (entries_view shown es) k.now (shown x) = ap (entries_view shown) grown ∙ entries-insert_entry es k x in
        so ∙ rw (was_read, is_some-entries k.now es o false old absent, known) refl

    pub again_by_id : is_some o ≡ true → whole ≡ Err (repeated (place i))
    again_by_id there = so ∙ rw (was_read, is_some-entries k.now es o true old there) refl

    -- the same of an insertion that failed
    pub refused_by_id : (e : Refusal) → IfNotMemory e ((is_some o ≡ true) × (e ≡ repeated (place i))) → IfNotMemory e (whole ≡ Err e)
    refused_by_id e h = if_not_memory e (λ (q : (is_some o ≡ true) × (e ≡ repeated (place i))). again_by_id q.0 ∙ ap Err (sym q.1)) h

pub item_at : (vs : List (Value Global)) (i : ℕ) (v : Value Global) → i < length vs → v ≡ get_or vs i v → items_view (drop i vs) ≡ item (value_view v) (items_view (drop (i + 1) vs))
item_at vs i v within is =
    let d : drop i vs ≡ get_or vs i v ∷ drop (i + 1) vs = rw (add-one, drop-cons vs i v within) refl in
    rw d (ap (λ x. item (value_view x) (items_view (drop (i + 1) vs))) (sym is))

-- the last value of a list is the first item of the reversed list
pub item_last : (vs all : List (Value Global)) (v : Value Global) → all ≡ vs ++ v ∷ [] → items_view (reverse all) ≡ item (value_view v) (items_view (reverse vs))
item_last vs all v e = ap (λ xs. items_view (reverse xs)) e ∙ ap items_view (reverse-append vs (v ∷ []))

-- popping the last value of a list that is read from its end: the items left before and after
module _ {Y : Type 0} (read : ℕ → Json → Result (Text × Y) Refusal) (place : ℕ → Place) (count left : ℕ) (all vs : List (Value Global)) (v : Value Global) (is : all ≡ vs ++ v ∷ []) (within : length all ≤ count) (were : left ≡ length vs) where
  longer : length all ≡ length vs + 1
  longer = ap length is ∙ length-append vs (v ∷ [])

  pub last_by_id : (xs : ById Y) (whole : Result (ById Y) Refusal) → whole ≡ each_by_id read place (count - length all) xs (items_view (reverse all)) → whole ≡ each_by_id read place (count - left - 1) xs (item (value_view v) (items_view (reverse vs)))
  last_by_id xs whole so =
      let long = longer in
      let at : count - length all ≡ count - left - 1 = omega arith in
      so ∙ rw (at, item_last vs all v is) refl

  pub others_by_id : (xs : ById Y) (whole : Result (ById Y) Refusal) → whole ≡ each_by_id read place (count - left - 1 + 1) xs (items_view (reverse vs)) → whole ≡ each_by_id read place (count - length vs) xs (items_view (reverse vs))
  others_by_id xs whole so =
      let long = longer in
      let at : count - left - 1 + 1 ≡ count - length vs = omega arith in
      so ∙ ap (λ n. each_by_id read place n xs (items_view (reverse vs))) at

  pub fewer : length vs ≤ count
  fewer = let long = longer in omega arith

pub package_refused : (n : ℕ) (d : Json) (ds : Items) (xs : ById PackageText) (whole : Result (ById PackageText) Refusal) (e : Refusal) → whole ≡ each_by_id package_with_id place.Package n xs (item d ds) → IfNotMemory e (package_in n d ≡ Err e) → IfNotMemory e (whole ≡ Err e)
package_refused n d ds xs whole e so refused = if_not_memory e (λ (q : package_in n d ≡ Err e). so ∙ rw q refl) refused

-- one more member moves from the rest into the sorted map
pub sorted_more : (vs : List (Bor Text × Value Global)) (i : ℕ) (v : Bor Text × Value Global) (w : Bor (Value Global)) (es new : List (Bor Text × Bor (Value Global))) (whole : ById Json) → i < length vs → v ≡ get_or vs i v → w.now ≡ v.1 → new ≡ insert_entry key_cmp es v.0 w → whole ≡ sorted (entries_view shown_value es) (members_view (drop i vs)) → whole ≡ sorted (entries_view shown_value new) (members_view (drop (i + 1) vs))
sorted_more vs i v w es new whole within is here grown so =
    let d : drop i vs ≡ get_or vs i v ∷ drop (i + 1) vs = rw (add-one, drop-cons vs i v within) refl in
    let at : members_view (drop i vs) ≡ member v.0.now (value_view v.1) (members_view (drop (i + 1) vs)) = rw d (ap (λ x. member x.0.now (value_view x.1) (members_view (drop (i + 1) vs))) (sym is)) in
    let known : entries_view shown_value new ≡ insert_entry id_cmp (entries_view shown_value es) v.0.now (value_view w.now) = ap (entries_view shown_value) grown ∙ entries-insert_entry shown_value es v.0 w in
    so ∙ rw (at, known, here) refl
