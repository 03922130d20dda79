-- Maps of texts, by their entries.
use Rattle.std.proofs.Common.{◌≡◌, sym, ap, refl, ℕ, suc, ◌+◌, ◌<◌, List, [], ◌∷◌, length, drop, get_or, Bool, true, false, cond, add-one, drop-cons, Bor}
use Rattle.std.specs.Prelude.{Option, Some, option_map}
use Rattle.std.specs.Ordering.{nat_cmp, is_eq, match_ordering}
use Rattle.std.specs.declared.cmp.Ordering.{Ordering}
use Rattle.std.specs.declared.cmp.Ordering.TheVariants.{Less, Equal, Greater}
use Rattle.std.specs.Cmp.Lexicographic.{slice_cmp}
use Rattle.std.specs.Str.{bytes_eq}
use Rattle.std.specs.Map.{lookup}
use Rattle.std.specs.BTreeMap.{insert_entry}
use Rattle.std.specs.BTreeSet.{insert_key}
use Rattle.std.proofs.lemmas.Map.Text.{is_eq-slice_cmp}
use Rattle.std.specs.declared.alloc.Global.{Global}
use Rattle.json.specs.Json.{item}
use Rattle.json.specs.Value.{value_view, items_view}
use Rattle.json.specs.declared.value.Value.{Value}
use Rattle.cargo_workspaces.specs.Views.{texts}
use Rattle.cargo_workspaces.specs.Workspaces.{Text, text_cmp}
use Rattle.feats_summary.specs.Packages.{sorted}
use Rattle.feats_summary.specs.inner.Views.{entry_texts}

-- the order of keys
abbrev pub key_cmp : Bor Text → Bor Text → Ordering
key_cmp a b = slice_cmp nat_cmp a.now b.now

found : (b : Bool) (v : Bor Text) (o : Option (Bor Text)) (p : Option Text) → p ≡ option_map (λ t. t.now) o → cond b (Some v.now) p ≡ option_map (λ t. t.now) (cond b (Some v) o)
found true v o p e = refl
found false v o p e = e

-- what is looked up
pub lookup_texts : (q : Text) (es : List (Bor Text × Bor Text)) → lookup (bytes_eq q) (entry_texts es) ≡ option_map (λ t. t.now) (lookup (λ k. is_eq (slice_cmp nat_cmp q k.now)) es)
lookup_texts q [] = refl
lookup_texts q (e ∷ es) = rw (is_eq-slice_cmp q e.0.now) (found (bytes_eq q e.0.now) e.1 _ _ (lookup_texts q es))

placed : (o : Ordering) (k v : Bor Text) (e : Bor Text × Bor Text) (es more : List (Bor Text × Bor Text)) (all : List (Text × Text)) → entry_texts more ≡ all → entry_texts (match_ordering o ((k, v) ∷ e ∷ es) ((e.0, v) ∷ es) (e ∷ more)) ≡ match_ordering o ((k.now, v.now) ∷ (e.0.now, e.1.now) ∷ entry_texts es) ((e.0.now, v.now) ∷ entry_texts es) ((e.0.now, e.1.now) ∷ all)
placed Less k v e es more all h = refl
placed Equal k v e es more all h = refl
placed Greater k v e es more all h = ap (λ xs. (e.0.now, e.1.now) ∷ xs) h

-- what is inserted
pub insert_texts : (es : List (Bor Text × Bor Text)) (k v : Bor Text) → entry_texts (insert_entry key_cmp es k v) ≡ insert_entry text_cmp (entry_texts es) k.now v.now
insert_texts [] k v = refl
insert_texts (e ∷ es) k v = placed (key_cmp k e.0) k v e es _ _ (insert_texts es k v)

placed_key : (o : Ordering) (k x : Bor Text) (xs more : List (Bor Text)) (all : List Text) → texts more ≡ all → texts (match_ordering o (k ∷ x ∷ xs) (x ∷ xs) (x ∷ more)) ≡ match_ordering o (k.now ∷ x.now ∷ texts xs) (x.now ∷ texts xs) (x.now ∷ all)
placed_key Less k x xs more all h = refl
placed_key Equal k x xs more all h = refl
placed_key Greater k x xs more all h = ap (λ ys. x.now ∷ ys) h

-- the same of a set
pub insert_key_texts : (ks : List (Bor Text)) (k : Bor Text) → texts (insert_key key_cmp ks k) ≡ insert_key text_cmp (texts ks) k.now
insert_key_texts [] k = refl
insert_key_texts (x ∷ xs) k = placed_key (key_cmp k x) k x xs _ _ (insert_key_texts xs k)

-- the items from a place on
pub item_at : (vs : List (Value Global)) (i : ℕ) (v : Value Global) → i < length vs → v ≡ get_or vs i v → items_view (drop i vs) ≡ item (value_view v) (items_view (drop (i + 1) vs))
item_at vs i v within is =
    let d : drop i vs ≡ get_or vs i v ∷ drop (i + 1) vs = rw (add-one, drop-cons vs i v within) refl in
    rw d (ap (λ x. item (value_view x) (items_view (drop (i + 1) vs))) (sym is))

-- a name that is inserted into a set before those after it
pub inserted_next : (names : List (Bor Text)) (i : ℕ) (d k : Bor Text) (ks new : List (Bor Text)) → i < length names → k ≡ get_or names i d → new ≡ insert_key key_cmp ks k
    → sorted (texts ks) (texts (drop i names)) ≡ sorted (texts new) (texts (drop (i + 1) names))
inserted_next names i d k ks new within is by =
    let next : drop i names ≡ k ∷ drop (i + 1) names = rw (add-one, drop-cons names i d within) (ap (λ x. x ∷ drop (suc i) names) (sym is)) in
    rw (next, by) (ap (λ all. sorted all (texts (drop (i + 1) names))) (sym (insert_key_texts ks k)))
