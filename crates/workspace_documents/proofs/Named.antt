-- The result for a declaration is the same, whether all used packages are searched or only those that have the declared name.
use Rattle.std.proofs.Common.{◌≡◌, ◌∙◌, sym, ap, refl, ℕ, ◌+◌, ◌<◌, List, [], ◌∷◌, ◌++◌, map, length, drop, get_or, add-one, drop-cons, Bool, true, false, cond, append_assoc}
use Rattle.std.specs.Prelude.{◌&&◌, filter, Some, option_map, slice_get, if◌then◌else◌}
use Rattle.std.proofs.lemmas.List.{append-nil}
use Rattle.std.proofs.lemmas.List.Elements.{filter_map-append}
use Rattle.std.proofs.lemmas.Option.{slice_get-map, slice_get_read}
use Rattle.std.specs.Borrow.{Bor}
use Rattle.std.specs.BTreeMap.{BTreeMap}
use Rattle.std.specs.Global.{Vec}
use Rattle.std.specs.Str.{bytes_eq}
use Rattle.std.specs.Cmp.Lexicographic.{bytes_decides}
use Rattle.cargo_json.specs.Faults.{Text}
use Rattle.workspace_documents.specs.Packages.{DeclarationText}
use Rattle.workspace_documents.specs.Nodes.{DepText}
use Rattle.workspace_documents.specs.Dependencies.{choice, choice_of, fits, found_of, is_admitted, is_as_named, is_used, nothing, pick}
use Rattle.workspace_documents.specs.declared.nodes.Dep.{Dep}
use Rattle.workspace_documents.specs.Names.{HasNames, at_places, of_name, places_of}
use Rattle.workspace_documents.specs.Views.{dep_view}

true_is_not_false : {P : Type 0} → true ≡ false → P
true_is_not_false h = cc

-- the elements that pass two tests, if the second passes where the first does
narrowed_by : {X : Type 0} (p q : X → Bool) (x : X) (some more : List X) → (p x ≡ true → q x ≡ true) → filter p some ≡ more → (a b : Bool) → q x ≡ a → p x ≡ b → filter p (cond a (x ∷ some) some) ≡ cond b (x ∷ more) more
narrowed_by p q x some more all same true true e f = rw f (ap (λ zs. x ∷ zs) same)
narrowed_by p q x some more all same true false e f = rw f same
narrowed_by p q x some more all same false false e f = same
narrowed_by p q x some more all same false true e f = true_is_not_false (sym (all f) ∙ e)

narrowed : {X : Type 0} (p q : X → Bool) → ((x : X) → p x ≡ true → q x ≡ true) → (xs : List X) → filter p (filter q xs) ≡ filter p xs
narrowed p q all [] = refl
narrowed p q all (x ∷ xs) = narrowed_by p q x (filter q xs) (filter p xs) (all x) (narrowed p q all xs) (q x) (p x) refl refl

both_first : (a b : Bool) → a && b ≡ true → a ≡ true
both_first true b h = refl
both_first false b h = h

turned : (a b : Text) → bytes_eq a b ≡ true → bytes_eq b a ≡ true
turned a b h = (bytes_decides b a).1 (sym ((bytes_decides a b).0 h))

pick_of_name : (test : DeclarationText → DepText → Bool) (id : Text) (d : DeclarationText) (ds : List DepText) → pick test id d (of_name d.name ds) ≡ pick test id d ds
unfolding pick
pick_of_name test id d ds =
    ap (λ xs. found_of (map (λ (dep : DepText). dep.target) xs))
    (narrowed (λ dep. fits id d dep && test d dep) (λ dep. bytes_eq d.name dep.target.name)
    (λ dep h. turned dep.target.name d.name (both_first (bytes_eq dep.target.name d.name) _ (both_first (fits id d dep) (test d dep) h))) ds)

pub choice_of_name : (id : Text) (d : DeclarationText) (ds : List DepText) → choice id d (of_name d.name ds) ≡ choice id d ds
choice_of_name id d ds =
    rw (pick_of_name is_used id d ds, pick_of_name is_admitted id d ds, pick_of_name (λ e dep. is_used e dep && is_admitted e dep) id d ds, pick_of_name (λ e dep. is_used e dep && is_as_named e dep) id d ds) refl

nothing_of : (optional : Bool) → choice_of optional nothing nothing nothing nothing ≡ nothing
nothing_of true = refl
nothing_of false = refl

-- of a name that no used package has, a declaration finds nothing
pub choice_of_none : (id : Text) (d : DeclarationText) (ds : List DepText) → [] ≡ of_name d.name ds → nothing ≡ choice id d ds
unfolding pick
choice_of_none id d ds none = sym (nothing_of d.is_optional) ∙ ap (choice id d) none ∙ choice_of_name id d ds

-- the places of a name find what all find
pub choice_at_name : (names : BTreeMap (Bor Text) (Vec ℕ)) (ds : List DepText) → HasNames names ds → (id : Text) (d : DeclarationText) → choice id d (at_places ds (places_of names d.name)) ≡ choice id d ds
choice_at_name names ds has id d = ap (choice id d) (has d.name) ∙ choice_of_name id d ds

-- one more used package moves from the rest to the places
module _ (q : Text) (ds : List Dep) (i : ℕ) (d : Dep) (old : List ℕ) (within : i < length ds) (is : d ≡ get_or ds i d) (so : of_name q (map dep_view ds) ≡ at_places (map dep_view ds) old ++ of_name q (map dep_view (drop i ds))) where
  abbrev all : List DepText
  all = map dep_view ds

  abbrev left : List DepText
  left = map dep_view (drop (i + 1) ds)

  here : map dep_view (drop i ds) ≡ dep_view d ∷ left
  here =
      let at : drop i ds ≡ get_or ds i d ∷ drop (i + 1) ds = rw (add-one, drop-cons ds i d within) refl in
      rw at (ap (λ x. dep_view x ∷ left) (sym is))

  there : slice_get all i ≡ Some (dep_view d)
  there = slice_get-map dep_view ds i ∙ ap (option_map dep_view) (slice_get_read ds (length ds) i d refl within is)

  next : (b : Bool) → bytes_eq q d.target.now.name.now ≡ b → of_name q all ≡ at_places all (old ++ (if b then i ∷ [] else [])) ++ of_name q left
  next true e = so ∙ rw (here, e, filter_map-append (slice_get all) old (i ∷ []), there) (sym (append_assoc (at_places all old) (dep_view d ∷ []) (of_name q left)))
  next false e = so ∙ rw (here, e, append-nil old) refl

  pub named_more : (new : List ℕ) → new ≡ old ++ (if bytes_eq q d.target.now.name.now then i ∷ [] else []) → of_name q all ≡ at_places all new ++ of_name q left
  named_more new grown = next (bytes_eq q d.target.now.name.now) refl ∙ ap (λ places. at_places all places ++ of_name q left) (sym grown)
