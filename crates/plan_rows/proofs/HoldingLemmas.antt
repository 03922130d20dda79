-- The texts that hold, one by one.
use Rattle.std.proofs.Common.{◌≡◌, ◌∙◌, sym, ap, refl, subst, ℕ, List, [], ◌∷◌, ◌++◌, Bool, true, false, cond, map, take, drop, Some, suc, zero}
use Rattle.std.specs.Prelude.{slice_get}
use Rattle.std.specs.List.{AllByRecursion}
use Rattle.std.specs.Ordering.{is_eq}
use Rattle.std.specs.Str.{bytes_eq}
use Rattle.std.proofs.lemmas.List.{map-append}
use Rattle.std.proofs.lemmas.Map.Text.{is_eq-slice_cmp}
use Rattle.std.proofs.lemmas.Slice.Eq.{bytes_eq-Decides}
use Rattle.cargo_workspaces.specs.Workspaces.{Text, text_cmp}
use Rattle.platform_specs.specs.Expressions.{Spec, Target}
use Rattle.platform_specs.specs.Faults.{IsMalformedAt}
use Rattle.platform_specs.specs.Grammar.{IsSpecText}
use Rattle.platform_specs.specs.Truth.{truth_of}
use Rattle.plan_rows.specs.platforms.DeclaredSpecs.{DeclaredText}
use Rattle.plan_rows.specs.platforms.HeldSpecs.{AreHeld, IsTruth}
use Rattle.plan_rows.specs.platforms.SpecFaults.{AllSpell, IsFaultAt, IsFaultOf}
use Rattle.plan_rows.specs.platforms.Views.{declared_text}
use Rattle.plan_rows.specs.platforms.inner.Holding.{IsHolding, kept}
use Rattle.plan_rows.specs.declared.platforms.declarations.DeclaredSpec.{DeclaredSpec}
use Rattle.plan_rows.specs.declared.platforms.fault.PlatformFault.{PlatformFault}
use Rattle.plan_rows.specs.declared.platforms.fault.PlatformFault.TheVariants.{Malformed, Memory}

abbrev pub OneSpec : Type 0
OneSpec = (text : List ℕ) (a b : Spec) → IsSpecText text a → IsSpecText text b → a ≡ b

-- a text has one truth
one_truth : OneSpec → (target : Target) (text : Text) (a b : Bool) → IsTruth target text a → IsTruth target text b → a ≡ b
one_truth one target text a b (s, is, truth) (t, also, same) = truth ∙ ap (truth_of target) (one text s t is also) ∙ sym same

all_more : {X : Type 0} (P : X → Type 0) (xs : List X) (x : X) → AllByRecursion P xs → P x → AllByRecursion P (xs ++ x ∷ [])
all_more P [] x all p = (p, tt)
all_more P (y ∷ ys) x (first, rest) p = (first, all_more P ys x rest p)

all_weaker : {X : Type 0} (P Q : X → Type 0) (xs : List X) → ((x : X) → P x → Q x) → AllByRecursion P xs → AllByRecursion Q xs
all_weaker P Q [] f all = tt
all_weaker P Q (x ∷ xs) f (first, rest) = (f x first, all_weaker P Q xs f rest)

not_both : (b : Bool) → b ≡ true → b ≡ false → true ≡ false
not_both b h k = sym h ∙ k

-- one more text, whose spec doesn't hold
pub holding_same : OneSpec → (target : Target) (specs : List DeclaredText) (holds : Text → Bool) (s : DeclaredText) → IsTruth target s.text false → IsHolding target specs holds → IsHolding target (specs ++ s ∷ []) holds
holding_same one target specs holds s fails_there held = record {
  sound = held.sound;
  all = all_more (λ s. IsTruth target s.text (holds s.text)) specs s held.all (go (holds s.text) refl);
}
  where
    go : (b : Bool) → holds s.text ≡ b → IsTruth target s.text (holds s.text)
    go true e = absurd (let bad : true ≡ false = one_truth one target s.text true false (held.sound s.text e) fails_there in cc)
    go false e = subst (IsTruth target s.text) (sym e) fails_there

grown_test : Text → (Text → Bool) → Text → Bool
grown_test text holds q = cond (is_eq (text_cmp text q)) true (holds q)

-- one more text, whose spec holds
pub holding_more : OneSpec → (target : Target) (specs : List DeclaredText) (old new : Text → Bool) (s : DeclaredText) → IsTruth target s.text true → ((q : Text) → new q ≡ cond (is_eq (text_cmp s.text q)) true (old q)) → IsHolding target specs old → IsHolding target (specs ++ s ∷ []) new
holding_more one target specs old new s holding_there grown held = record {
  sound = λ q h. sound q (bytes_eq s.text q) refl h;
  all = all_more (λ x. IsTruth target x.text (new x.text)) specs s (all_weaker (λ x. IsTruth target x.text (old x.text)) (λ x. IsTruth target x.text (new x.text)) specs kept held.all) added;
}
  where
    by_text : (q : Text) → new q ≡ cond (bytes_eq s.text q) true (old q)
    by_text q = grown q ∙ ap (λ b. cond b true (old q)) (is_eq-slice_cmp s.text q)

    sound : (q : Text) (b : Bool) → bytes_eq s.text q ≡ b → new q ≡ true → IsTruth target q true
    sound q true e h = subst (λ t. IsTruth target t true) ((bytes_eq-Decides s.text q).0 e) holding_there
    sound q false e h = held.sound q (sym (by_text q ∙ ap (λ b. cond b true (old q)) e) ∙ h)

    same : (q : Text) (b : Bool) → bytes_eq s.text q ≡ b → IsTruth target q (old q) → IsTruth target q (new q)
    same q true e t =
        let is_true : new q ≡ true = by_text q ∙ ap (λ b. cond b true (old q)) e in
        subst (IsTruth target q) (sym is_true) (subst (λ t. IsTruth target t true) ((bytes_eq-Decides s.text q).0 e) holding_there)
    same q false e t = subst (IsTruth target q) (sym (by_text q ∙ ap (λ b. cond b true (old q)) e)) t

    kept : (x : DeclaredText) → IsTruth target x.text (old x.text) → IsTruth target x.text (new x.text)
    kept x t = same x.text (bytes_eq s.text x.text) refl t

    added : IsTruth target s.text (new s.text)
    added =
        let is_true : new s.text ≡ true = by_text s.text ∙ ap (λ b. cond b true (old s.text)) ((bytes_eq-Decides s.text s.text).1 refl) in
        subst (IsTruth target s.text) (sym is_true) holding_there

-- the same texts hold
holding_along : (target : Target) (specs : List DeclaredText) (old new : Text → Bool) → ((q : Text) → new q ≡ old q) → IsHolding target specs old → IsHolding target specs new
holding_along target specs old new same held = record {
  sound = λ q h. held.sound q (sym (same q) ∙ h);
  all = all_weaker (λ x. IsTruth target x.text (old x.text)) (λ x. IsTruth target x.text (new x.text)) specs (λ x h. subst (IsTruth target x.text) (sym (same x.text)) h) held.all;
}

-- one more text
pub holding_step : OneSpec → (target : Target) (specs : List DeclaredText) (old new : Text → Bool) (s : DeclaredText) (b : Bool) → IsTruth target s.text b → ((q : Text) → new q ≡ kept b s.text old q) → IsHolding target specs old → IsHolding target (specs ++ s ∷ []) new
holding_step one target specs old new s true truth grown held = holding_more one target specs old new s truth grown held
holding_step one target specs old new s false truth grown held = holding_along target (specs ++ s ∷ []) old new grown (holding_same one target specs old s truth held)

pub held_spell : (target : Target) (specs : List DeclaredText) (holds : Text → Bool) → AreHeld target specs holds → AllSpell specs
held_spell target specs holds held = all_weaker (λ s. IsTruth target s.text (holds s.text)) (λ s. (spec : Spec) × IsSpecText s.text spec) specs (λ s h. (h.0, h.1)) held

parts_at : {X : Type 0} (xs : List X) (i : ℕ) (x : X) → slice_get xs i ≡ Some x → xs ≡ take i xs ++ x ∷ drop (suc i) xs
parts_at [] i x e = cc
parts_at (y ∷ ys) zero x e = let same : y ≡ x = cc in ap (λ z. z ∷ ys) same
parts_at (y ∷ ys) (suc i) x e = ap (λ z. y ∷ z) (parts_at ys i x e)

-- the first malformed text
pub fault_at : (target : Target) (specs : List DeclaredSpec) (holds : Text → Bool) (i : ℕ) (s : DeclaredSpec) (fault : PlatformFault) → slice_get specs i ≡ Some s
    → AreHeld target (map declared_text (take i specs)) holds → IsFaultAt (declared_text s) fault → IsFaultOf (map declared_text specs) fault
fault_at target specs holds i s (Malformed p spec at) e h (same, malformed) = record {
  before = map declared_text (take i specs);
  after = map declared_text (drop (suc i) specs);
  parts = ap (map declared_text) (parts_at specs i s e)
      ∙ map-append declared_text (take i specs) (s ∷ drop (suc i) specs)
      ∙ ap (λ z. map declared_text (take i specs) ++ z ∷ map declared_text (drop (suc i) specs)) (sym same);
  spelled = held_spell target (map declared_text (take i specs)) holds h;
  malformed = subst (λ (z : DeclaredText). IsMalformedAt z.text at) (sym same) malformed;
}
fault_at target specs holds i s Memory e h f = tt
