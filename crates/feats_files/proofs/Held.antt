-- The specs that hold on targets, one after the other.
use Rattle.std.proofs.Common.{◌≡◌, ◌∙◌, ℕ, ◌<◌, ◌+◌, List, [], ◌∷◌, ◌++◌, Bool, sym, subst, ap, map, take, length, get_or}
use Rattle.std.proofs.lemmas.List.{map-append, take_more}
use Rattle.cargo_workspaces.specs.Workspaces.{Text}
use Rattle.platform_specs.specs.Expressions.{Target}
use Rattle.plan_rows.specs.platforms.DeclaredSpecs.{DeclaredText}
use Rattle.plan_rows.specs.platforms.HeldSpecs.{AreHeld}
use Rattle.feats_files.specs.Platforms.{AreHeldOnEach}

held_push : (ts : List Target) (specs : List DeclaredText) (hs : List (Text → Bool)) (t : Target) (h : Text → Bool) → AreHeldOnEach ts specs hs → AreHeld t specs h → AreHeldOnEach (ts ++ t ∷ []) specs (hs ++ h ∷ [])
held_push [] specs [] t h all is = (is, tt)
held_push (u ∷ ts) specs (g ∷ hs) t h (first, rest) is = (first, held_push ts specs hs t h rest is)
held_push [] specs (g ∷ hs) t h all is = absurd all
held_push (u ∷ ts) specs [] t h all is = absurd all

-- one more target
pub held_more : {X : Type 0} (holds : X → Text → Bool) (targets : List Target) (specs : List DeclaredText) (i : ℕ) (t : Target) (each new : List X) (x : X) → i < length targets → t ≡ get_or targets i t
    → AreHeldOnEach (take i targets) specs (map holds each) → AreHeld t specs (holds x) → new ≡ each ++ x ∷ [] → AreHeldOnEach (take (i + 1) targets) specs (map holds new)
held_more holds targets specs i t each new x within is all one grown =
    let here : take i targets ++ t ∷ [] ≡ take (i + 1) targets = ap (λ (u : Target). take i targets ++ u ∷ []) is ∙ sym (take_more targets i t within) in
    let there : map holds each ++ holds x ∷ [] ≡ map holds new = sym (ap (map holds) grown ∙ map-append holds each (x ∷ [])) in
    subst (λ ts. AreHeldOnEach ts specs (map holds new)) here (subst (AreHeldOnEach (take i targets ++ t ∷ []) specs) there (held_push (take i targets) specs (map holds each) t (holds x) all one))
