-- The packages to which declarations that count lead.
use Rattle.std.proofs.Common.{◌≡◌, ◌∙◌, sym, ap, refl, ℕ, ◌+◌, ◌<◌, List, [], ◌∷◌, ◌++◌, map, length, take, get_or, Bool, true, false, Option, Some, None, if◌then◌else◌}
use Rattle.std.specs.Prelude.{◌&&◌, ◌||◌, nat_eq}
use Rattle.std.specs.List.{list_any}
use Rattle.std.specs.Option.{option_map_or}
use Rattle.std.proofs.lemmas.Bool.Decides.{Decides-eqb}
use Rattle.std.proofs.lemmas.List.{map-append, take_more}
use Rattle.std.proofs.lemmas.List.Folds.{list_any-append}
use Rattle.cargo_workspaces.specs.Workspaces.{DeclarationText, Text, both_lead_to}
use Rattle.plan_starts.specs.Targets.{TargetRules, counts, counts_for, is_of, leads_on}

either_false : (a : Bool) → (a || false) ≡ a
either_false true = refl
either_false false = refl

flip : (a b : Bool) → (a || b) ≡ (b || a)
flip true true = refl
flip true false = refl
flip false true = refl
flip false false = refl

alike : (a b : Bool) → (a ≡ true → b ≡ true) → (b ≡ true → a ≡ true) → a ≡ b
alike true b f g = sym (f refl)
alike false true f g = g refl
alike false false f g = refl

same_number : (p : Option ℕ) (q : ℕ) → both_lead_to p (Some q) ≡ both_lead_to (Some q) p
same_number None q = refl
same_number (Some a) q = alike (nat_eq a q) (nat_eq q a) (λ h. (Decides-eqb q a).1 (sym ((Decides-eqb a q).0 h))) (λ h. (Decides-eqb a q).1 (sym ((Decides-eqb q a).0 h)))

lead_if : (b : Bool) (p : Option ℕ) (q : ℕ) → both_lead_to (Some q) (if b then p else None) ≡ (b && both_lead_to (Some q) p)
lead_if true p q = refl
lead_if false p q = refl

never : (a : Bool) → (a && false) ≡ false
never true = refl
never false = refl

module _ (r : TargetRules) (p : ℕ) (name : Text) where
  none_counts : (ds : List DeclarationText) → counts_for r p name ds None ≡ false
  none_counts [] = refl
  none_counts (d ∷ ds) = rw (never (is_of r p name d && counts r.settings d), none_counts ds) refl

  -- one more declaration is looked at
  pub counts_more : {X : Type 0} (view : X → DeclarationText) (xs : List X) (i : ℕ) (x : X) (lead : Option ℕ) (q : ℕ) (old new : Bool) → i < length xs → x ≡ get_or xs i x
      → lead ≡ (if is_of r p name (view x) && counts r.settings (view x) then (view x).leads_to else None)
      → new ≡ (both_lead_to lead (Some q) || old) → old ≡ counts_for r p name (map view (take i xs)) (Some q)
      → new ≡ counts_for r p name (map view (take (i + 1) xs)) (Some q)
  counts_more {X} view xs i x lead q old new within is led grown was =
      let test : DeclarationText → Bool = λ d. is_of r p name d && counts r.settings d && both_lead_to (Some q) d.leads_to in
      let more : take (i + 1) xs ≡ take i xs ++ x ∷ [] = take_more xs i x within ∙ ap (λ (y : X). take i xs ++ y ∷ []) (sym is) in
      let seen : map view (take (i + 1) xs) ≡ map view (take i xs) ++ view x ∷ [] = ap (map view) more ∙ map-append view (take i xs) (x ∷ []) in
      let all : list_any test (map view (take (i + 1) xs)) ≡ (list_any test (map view (take i xs)) || test (view x)) = ap (list_any test) seen ∙ list_any-append test (map view (take i xs)) (view x ∷ []) ∙ ap (λ (b : Bool). list_any test (map view (take i xs)) || b) (either_false (test (view x))) in
      let one : both_lead_to lead (Some q) ≡ test (view x) = same_number lead q ∙ ap (both_lead_to (Some q)) led ∙ lead_if (is_of r p name (view x) && counts r.settings (view x)) (view x).leads_to q in
      grown ∙ ap (λ (b : Bool). b || old) one ∙ flip (test (view x)) old ∙ ap (λ (b : Bool). b || test (view x)) was ∙ sym all

  -- by the packages to which declarations that count lead
  pub among_counts : (ds : List DeclarationText) (feature : Text) (has : ℕ → Bool) → ((q : ℕ) → has q ≡ counts_for r p name ds (Some q))
      → list_any (λ d. is_of r p name d && leads_on r feature d && option_map_or has d.leads_to false) ds ≡ list_any (λ d. is_of r p name d && leads_on r feature d && counts_for r p name ds d.leads_to) ds
  among_counts ds feature has same = ap (λ (test : Option ℕ → Bool). list_any (λ d. is_of r p name d && leads_on r feature d && test d.leads_to) ds) (λ i to. by to i)
    where
      by : (to : Option ℕ) → option_map_or has to false ≡ counts_for r p name ds to
      by None = sym (none_counts ds)
      by (Some q) = same q
