-- The texts that hold, one by one, and as members.
use Rattle.std.proofs.Common.{◌≡◌, ℕ, zero, suc, ⊎_elim, List, [], ◌∷◌, ◌++◌, Bool, true, false, map, take, drop, Some, refl, ap, sym, ◌∙◌, subst, if◌then◌else◌}
use Rattle.std.specs.Prelude.{Contains, slice_get}
use Rattle.std.specs.Borrow.{Bor}
use Rattle.std.specs.Str.{chars}
use Rattle.std.proofs.lemmas.List.{map-append}
use Rattle.guppy_packages.specs.Rows.{Text}
use Rattle.platform_specs.specs.Expressions.{Spec, Target}
use Rattle.platform_specs.specs.Faults.{IsMalformedAt}
use Rattle.platform_specs.specs.Grammar.{IsSpecText}
use Rattle.platform_specs.specs.Truth.{truth_of}
use Rattle.platform_specs.proofs.SpecTexts.{one_spec}
use Rattle.feature_core.proofs.AddsLemmas.{Contains-first, Contains-later, Contains-cases, Contains-none}
use Rattle.guppy_features.specs.graph_platforms.HeldSpecs.{Holds, AreHeld}
use Rattle.guppy_features.specs.graph_platforms.SpecFaults.{AllSpell, IsFaultAt, IsFaultOf}
use Rattle.guppy_features.specs.declared.graph_platforms.fault.PlatformFault.{PlatformFault}
use Rattle.guppy_features.specs.declared.graph_platforms.fault.PlatformFault.TheVariants.{Malformed, Memory}

-- the text, if it holds
abbrev pub one_held : Bool → Text → List Text
one_held b text = if b then text ∷ [] else []

-- one more text
pub held_more : (target : Target) (texts held : List Text) (text : Text) (spec : Spec) → IsSpecText text spec → AreHeld target texts held
    → AreHeld target (texts ++ text ∷ []) (held ++ one_held (truth_of target spec) text)
held_more target [] held text spec s h = (spec, [], s, refl, ap (λ z. z ++ one_held (truth_of target spec) text) h)
held_more target (first ∷ others) held text spec s (m, rest, q, more, is) =
    (m, rest ++ one_held (truth_of target spec) text, q, held_more target others rest text spec s more, go (truth_of target m) is)
  where
    go : (b : Bool) → held ≡ (if b then first ∷ rest else rest)
        → held ++ one_held (truth_of target spec) text ≡ (if b then first ∷ (rest ++ one_held (truth_of target spec) text) else rest ++ one_held (truth_of target spec) text)
    go true e = ap (λ z. z ++ one_held (truth_of target spec) text) e
    go false e = ap (λ z. z ++ one_held (truth_of target spec) text) e

held_spell : (target : Target) (texts held : List Text) → AreHeld target texts held → AllSpell texts
held_spell target [] held h = tt
held_spell target (first ∷ others) held (m, rest, q, more, is) = ((m, q), held_spell target others rest more)

parts_at : {X : Type 0} (xs : List X) (i : ℕ) (x : X) → slice_get xs i ≡ Some x → xs ≡ take i xs ++ x ∷ drop (suc i) xs
parts_at [] i x e = cc
parts_at (y ∷ ys) zero x e = let same : y ≡ x = cc in ap (λ z. z ∷ ys) same
parts_at (y ∷ ys) (suc i) x e = ap (λ z. y ∷ z) (parts_at ys i x e)

-- the first malformed text
pub fault_at : (target : Target) (texts : List (Bor (List ℕ))) (held : List Text) (i : ℕ) (text : Bor (List ℕ)) (fault : PlatformFault) → slice_get texts i ≡ Some text
    → AreHeld target (map (λ t. t.now) (take i texts)) held → IsFaultAt text.now fault → IsFaultOf (map (λ t. t.now) texts) fault
fault_at target texts held i text (Malformed spec at) e h (same, malformed) = record {
  before = map (λ t. t.now) (take i texts);
  after = map (λ t. t.now) (drop (suc i) texts);
  parts = ap (map (λ (t : Bor (List ℕ)). t.now)) (parts_at texts i text e)
      ∙ map-append (λ (t : Bor (List ℕ)). t.now) (take i texts) (text ∷ drop (suc i) texts)
      ∙ ap (λ z. map (λ (t : Bor (List ℕ)). t.now) (take i texts) ++ z ∷ map (λ (t : Bor (List ℕ)). t.now) (drop (suc i) texts)) (sym same);
  spelled = held_spell target (map (λ t. t.now) (take i texts)) held h;
  malformed = subst (λ z. IsMalformedAt z at) (sym same) malformed;
}
fault_at target texts held i text Memory e h f = tt

-- a text that is listed is one of the texts, and holds
pub held_from : (target : Target) (texts held : List Text) → AreHeld target texts held → (x : Text) → Contains held x → Contains texts x × Holds target x
held_from target [] held h x i = absurd (Contains-none x (subst (λ z. Contains z x) h i))
held_from target (first ∷ others) held (m, rest, q, more, is) x i =
    go (truth_of target m) refl is (λ j. let r = held_from target others rest more x j in (Contains-later first others x r.0, r.1))
  where
    go : (b : Bool) → truth_of target m ≡ b → held ≡ (if b then first ∷ rest else rest) → (Contains rest x → Contains (first ∷ others) x × Holds target x)
        → Contains (first ∷ others) x × Holds target x
    go true e k later = ⊎_elim
        (λ s. (subst (λ z. Contains (first ∷ others) z) s (Contains-first first others), subst (λ z. Holds target z) s (m, q, e)))
        later
        (Contains-cases first rest x (subst (λ z. Contains z x) k i))
    go false e k later = later (subst (λ z. Contains z x) k i)

-- one of the texts that holds is listed
pub held_into : (target : Target) (texts held : List Text) → AreHeld target texts held → (x : Text) → Contains texts x → Holds target x → Contains held x
held_into target [] held h x i t = absurd (Contains-none x i)
held_into target (first ∷ others) held (m, rest, q, more, is) x i (spec, s, t) = ⊎_elim
    (λ e.
    let same : m ≡ spec = one_spec (chars x) m spec (subst (λ z. IsSpecText z m) e q) s in
    let true_of : truth_of target m ≡ true = ap (truth_of target) same ∙ t in
    let listed : held ≡ first ∷ rest = is ∙ ap (λ b. if b then first ∷ rest else rest) true_of in
    subst (λ z. Contains held z) e (subst (λ z. Contains z first) (sym listed) (Contains-first first rest)))
    (λ j. go (truth_of target m) is (held_into target others rest more x j (spec, s, t)))
    (Contains-cases first others x i)
  where
    go : (b : Bool) → held ≡ (if b then first ∷ rest else rest) → Contains rest x → Contains held x
    go true k j = subst (λ z. Contains z x) (sym k) (Contains-later first rest x j)
    go false k j = subst (λ z. Contains z x) (sym k) j
