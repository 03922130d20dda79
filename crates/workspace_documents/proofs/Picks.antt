-- The search among used packages and the declarations that lead to one, step by step.
use Rattle.std.proofs.Common.{◌≡◌, ◌∙◌, sym, ap, refl, ℕ, ◌+◌, ◌<◌, List, [], ◌∷◌, ◌++◌, map, length, take, drop, get_or, Bool, true, false, add-one, drop-cons}
use Rattle.std.specs.Prelude.{filter, Option, Result, Ok, Err, Some, None, slice_get}
use Rattle.std.proofs.lemmas.List.{take_more, map-append, append-nil}
use Rattle.std.proofs.lemmas.List.Elements.{filter-append, filter_map-append}
use Rattle.workspace_documents.specs.declared.packages.Declaration.{Declaration}
use Rattle.workspace_documents.specs.declared.dependencies.Asked.{Asked}
use Rattle.workspace_documents.specs.Packages.{DeclarationText, PackageText}
use Rattle.workspace_documents.specs.Nodes.{DepText}
use Rattle.cargo_json.specs.Faults.{Text, Refusal, ◌>>=◌}
use Rattle.workspace_documents.specs.Dependencies.{nothing, found_of, pick, DependencyText, target_of, with_target, led}
use Rattle.workspace_documents.specs.inner.Picks.{with_one, and_one, answers, meets}
use Rattle.workspace_documents.specs.Names.{at_places}
use Rattle.workspace_documents.specs.Views.{declaration_view}
use Rattle.workspace_documents.proofs.Lists.{prepend, prepend_one}

found_of-more : (ps : List PackageText) (p : PackageText) → found_of (ps ++ p ∷ []) ≡ with_one (found_of ps) p
found_of-more [] p = refl
found_of-more (a ∷ []) p = refl
found_of-more (a ∷ b ∷ rest) p = refl

abbrev target : DepText → PackageText
target dep = dep.target

tested : (t : DepText → Bool) (ds : List DepText) (z : DepText) (b : Bool) → t z ≡ b → found_of (map target (filter t (ds ++ z ∷ []))) ≡ and_one b (found_of (map target (filter t ds))) (target z)
tested t ds z true e = rw (filter-append t ds (z ∷ []), e, map-append target (filter t ds) (z ∷ [])) (found_of-more _ _)
tested t ds z false e = rw (filter-append t ds (z ∷ []), e, map-append target (filter t ds) []) (ap found_of (append-nil _))

-- the packages at the places up to the next one
at_more : (deps : List DepText) (places : List ℕ) (i : ℕ) → i < length places → at_places deps (take (i + 1) places) ≡ at_places deps (take i places) ++ at_places deps (get_or places i 0 ∷ [])
at_more deps places i h = ap (at_places deps) (take_more places i 0 h) ∙ filter_map-append (slice_get deps) (take i places) (get_or places i 0 ∷ [])

pub pick_none : (ask : Asked) (id : Text) (d : DeclarationText) → pick (answers ask) id d [] ≡ nothing
unfolding pick
pick_none ask id d = refl

-- one more place
pub pick_step : (ask : Asked) (id : Text) (d : DeclarationText) (deps : List DepText) (places : List ℕ) (i : ℕ) (z : DepText) → i < length places → slice_get deps (get_or places i 0) ≡ Some z → and_one (meets ask id d z) (pick (answers ask) id d (at_places deps (take i places))) z.target ≡ pick (answers ask) id d (at_places deps (take (i + 1) places))
unfolding pick meets
pick_step ask id d deps places i z h there =
    sym (ap (λ xs. found_of (map target (filter (meets ask id d) xs))) (at_more deps places i h ∙ rw there refl) ∙ tested (meets ask id d) (at_places deps (take i places)) z (meets ask id d z) refl)

pub pick_past : (ask : Asked) (id : Text) (d : DeclarationText) (deps : List DepText) (places : List ℕ) (i : ℕ) → i < length places → slice_get deps (get_or places i 0) ≡ None → pick (answers ask) id d (at_places deps (take i places)) ≡ pick (answers ask) id d (at_places deps (take (i + 1) places))
pick_past ask id d deps places i h none = ap (pick (answers ask) id d) (sym (at_more deps places i h ∙ rw none (append-nil _)))

same_rest : {X : Type 0} (rest : Result (List X) Refusal) → (rest >>= λ xs. Ok xs) ≡ rest
same_rest (Ok xs) = refl
same_rest (Err e) = refl

module _ (id : Text) (deps : List DepText) (ds : List Declaration) (i : ℕ) (d : Declaration) (es : List DependencyText) (whole : Result (List DependencyText) Refusal) (within : i < length ds) (is : d ≡ get_or ds i d) (so : whole ≡ prepend es (led id deps (map declaration_view (drop i ds)))) where
  here : map declaration_view (drop i ds) ≡ declaration_view d ∷ map declaration_view (drop (i + 1) ds)
  here =
      let at : drop i ds ≡ get_or ds i d ∷ drop (i + 1) ds = rw (add-one, drop-cons ds i d within) refl in
      rw at (ap (λ x. declaration_view x ∷ map declaration_view (drop (i + 1) ds)) (sym is))

  led_nowhere : target_of id (declaration_view d) deps ≡ Ok None → whole ≡ prepend es (led id deps (map declaration_view (drop (i + 1) ds)))
  led_nowhere none = so ∙ rw (here, none) (ap (prepend es) (same_rest (led id deps (map declaration_view (drop (i + 1) ds)))))

  led_more : (p : PackageText) → target_of id (declaration_view d) deps ≡ Ok (Some p) → whole ≡ prepend (es ++ record { declaration = declaration_view d; target = p } ∷ []) (led id deps (map declaration_view (drop (i + 1) ds)))
  led_more p some = so ∙ rw (here, some) (prepend_one es (record { declaration = declaration_view d; target = p }) (led id deps (map declaration_view (drop (i + 1) ds))))

  pub led_next : (o : Option PackageText) → target_of id (declaration_view d) deps ≡ Ok o → whole ≡ prepend (es ++ with_target (declaration_view d) o []) (led id deps (map declaration_view (drop (i + 1) ds)))
  led_next None e = led_nowhere e ∙ ap (λ (xs : List DependencyText). prepend xs (led id deps (map declaration_view (drop (i + 1) ds)))) (sym (append-nil es))
  led_next (Some p) e = led_more p e
