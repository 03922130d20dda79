-- A platform spec that a declaration names is one of the declared specs.
use Rattle.std.proofs.Common.{◌≡◌, ⊎_elim, ℕ, ◌+◌, List, [], ◌∷◌, Bool, true, false, Option, None, Some, map, refl, sym, ◌∙◌, subst, arith}
use Rattle.std.specs.Prelude.{◌||◌, Contains, filter_map}
use Rattle.std.specs.Cmp.Lexicographic.{bytes_decides}
use Rattle.std.specs.List.{cons_option}
use Rattle.std.specs.Str.{bytes_eq}
use Rattle.std.proofs.lemmas.List.Elements.{Contains-append_cases, Contains-push_cases}
use Rattle.std.proofs.lemmas.List.Folds.{list_any-append}
use Rattle.cargo_workspaces.specs.Workspaces.{DeclarationText, PackageText, Text}
use Rattle.plan_rows.specs.platforms.DeclaredSpecs.{DeclaredText, declared_by, declared_specs, specs_from, specs_of}
use Rattle.plan_rows.specs.platforms.HeldSpecs.{is_declared}

none_in : {X : Type 0} (x : X) → Contains [] x → ⊥
none_in x h = omega (arith, h.1)

single : {X : Type 0} (z x : X) → Contains (z ∷ []) x → z ≡ x
single z x h = ⊎_elim (λ i. absurd (none_in x i)) (λ e. e) (Contains-push_cases [] z x h)

pub left_true : (a b : Bool) → a ≡ true → (a || b) ≡ true
left_true true b h = refl
left_true false b h = absurd (cc)

right_true : (a b : Bool) → b ≡ true → (a || b) ≡ true
right_true true b h = refl
right_true false b h = h

module _ (text : Text) where
  -- of one package
  named_in : (p : ℕ) (ds : List DeclarationText) (d : DeclarationText) → Contains ds d → d.platform ≡ Some text → is_declared (specs_of p ds) text ≡ true
  named_in p [] d c e = absurd (none_in d c)
  named_in p (z ∷ ds) d c e = ⊎_elim
      (λ i. here z.platform (subst (λ (y : DeclarationText). y.platform ≡ Some text) (sym (single z d i)) e))
      (λ i. later z.platform (named_in p ds d i e))
      (Contains-append_cases (z ∷ []) ds d c)
    where
      here : (o : Option Text) → o ≡ Some text → is_declared (map (declared_by p) (cons_option o (filter_map (λ d. d.platform) ds))) text ≡ true
      here None i = absurd (cc)
      here (Some t) i = let same : t ≡ text = cc in left_true (bytes_eq t text) (is_declared (specs_of p ds) text) ((bytes_decides t text).1 same)

      later : (o : Option Text) → is_declared (specs_of p ds) text ≡ true → is_declared (map (declared_by p) (cons_option o (filter_map (λ d. d.platform) ds))) text ≡ true
      later None h = h
      later (Some t) h = right_true (bytes_eq t text) (is_declared (specs_of p ds) text) h

  named_from : (k : ℕ) (xs : List PackageText) (x : PackageText) (d : DeclarationText) → Contains xs x → Contains x.declarations d → d.platform ≡ Some text → is_declared (specs_from k xs) text ≡ true
  named_from k [] x d c i e = absurd (none_in x c)
  named_from k (z ∷ xs) x d c i e =
      let first = is_declared (specs_of k z.declarations) text in
      let rest = is_declared (specs_from (k + 1) xs) text in
      list_any-append (λ (s : DeclaredText). bytes_eq s.text text) (specs_of k z.declarations) (specs_from (k + 1) xs)
      ∙ ⊎_elim
      (λ j. left_true first rest (named_in k z.declarations d (subst (λ (y : PackageText). Contains y.declarations d) (sym (single z x j)) i) e))
      (λ j. right_true first rest (named_from (k + 1) xs x d j i e))
      (Contains-append_cases (z ∷ []) xs x c)

  pub named : (packages : List PackageText) (x : PackageText) (d : DeclarationText) → Contains packages x → Contains x.declarations d → d.platform ≡ Some text → is_declared (declared_specs packages) text ≡ true
  named packages x d c i e = named_from 0 packages x d c i e
