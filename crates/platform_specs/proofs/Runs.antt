-- Laws of runs, and of tests on characters.
use Rattle.std.proofs.Common.{◌≡◌, ℕ, ◌<◌, ◌⊎◌, Bool, true, false, cond, List, [], ◌∷◌, ◌++◌, Option, Some, None, refl, ap, sym, ◌∙◌, inl, inr, append-nil, append_assoc, arith, subst}
use Rattle.std.specs.Prelude.{◌==◌}
use Rattle.std.proofs.lemmas.Bool.Decides.{eqb_tells, nat_tests}
use Rattle.std.specs.Option.{option_and_then}
use Rattle.platform_specs.specs.Grammar.{AllAre, begins_name, continues_name}
use Rattle.platform_specs.specs.inner.Runs.{run}
use Rattle.platform_specs.specs.inner.FactReading.{GoesOn}

module _ {S : Type 0} (step : S → ℕ → Option S) where
  pub run_cons : (c : ℕ) (cs : List ℕ) (s t : S) → step s c ≡ Some t → run step (c ∷ cs) s ≡ run step cs t
  run_cons c cs s t e = ap (option_and_then (run step cs)) e

  past_option : (cs b : List ℕ) (u : S) → ((s : S) → run step cs s ≡ Some u → run step (cs ++ b) s ≡ run step b u)
      → (o : Option S) → option_and_then (run step cs) o ≡ Some u → option_and_then (run step (cs ++ b)) o ≡ run step b u
  past_option cs b u rest None e = cc
  past_option cs b u rest (Some s) e = rest s e

  -- a run over two texts, from the run over the first
  pub run_past : (a b : List ℕ) (s u : S) → run step a s ≡ Some u → run step (a ++ b) s ≡ run step b u
  run_past [] b s u e = cc
  run_past (c ∷ cs) b s u e = past_option cs b u (λ t. run_past cs b t u) (step s c) e

  -- characters that don't change the state
  pub run_stays : (p : ℕ → Bool) (s : S) → ((c : ℕ) → p c ≡ true → step s c ≡ Some s) → (cs : List ℕ) → AllAre p cs → run step cs s ≡ Some s
  run_stays p s one [] h = refl
  run_stays p s one (c ∷ cs) h = run_cons c cs s s (one c h.0) ∙ run_stays p s one cs h.1

  keeps_option : (P : S → List ℕ → Type 0) (c : ℕ) (cs front : List ℕ) (u : S)
      → ((t : S) → P t (front ++ c ∷ []) → run step cs t ≡ Some u → P u ((front ++ c ∷ []) ++ cs))
      → (o : Option S) → ((t : S) → o ≡ Some t → P t (front ++ c ∷ [])) → option_and_then (run step cs) o ≡ Some u → P u (front ++ c ∷ cs)
  keeps_option P c cs front u rest None one e = cc
  keeps_option P c cs front u rest (Some t) one e = let P' : List ℕ → Type 0 = λ l. P u l in subst P' (append_assoc front (c ∷ []) cs) (rest t (one t refl) e)

  -- a property that each step keeps is kept by a run
  pub run_keeps : (P : S → List ℕ → Type 0) → ((s t : S) (front : List ℕ) (c : ℕ) → P s front → step s c ≡ Some t → P t (front ++ c ∷ []))
      → (cs front : List ℕ) (s u : S) → P s front → run step cs s ≡ Some u → P u (front ++ cs)
  run_keeps P one [] front s u h e = let P' : List ℕ → Type 0 = λ l. P u l in subst P' (sym (append-nil front)) (let Q : S → Type 0 = λ v. P v front in subst Q (some_same e) h)
    where
      some_same : {a b : S} → run step [] a ≡ Some b → a ≡ b
      some_same k = cc
  run_keeps P one (c ∷ cs) front s u h e =
      keeps_option P c cs front u (λ t k r. run_keeps P one cs (front ++ c ∷ []) t u k r) (step s c) (λ t k. one s t front c h k) e

-- a character that passes a test differs from one that fails it
pub differs : (p : ℕ → Bool) (d c : ℕ) → p d ≡ false → p c ≡ true → (c == d) ≡ false
differs p d c f t = elim (eqb_tells c d) [ inl h ↦ absurd (clash (sym t ∙ ap p h.1 ∙ f)) | inr h ↦ h.0 ]
  where
    clash : true ≡ false → ⊥
    clash e = cc

-- the branch that a choice took
pub chosen : {A : Type 0} (b : Bool) (x y z : A) → cond b x y ≡ z → ((b ≡ true) × (x ≡ z)) ⊎ ((b ≡ false) × (y ≡ z))
chosen true x y z e = inl (refl, e)
chosen false x y z e = inr (refl, e)

pub same_char : (c d : ℕ) → (c == d) ≡ true → c ≡ d
same_char c d t = elim (eqb_tells c d) [ inl h ↦ h.1 | inr h ↦ absurd (clash (sym t ∙ h.0)) ]
  where
    clash : true ≡ false → ⊥
    clash e = cc

-- the characters of names are ASCII
pub continues_ascii : (c : ℕ) → continues_name c ≡ true → c < 128
continues_ascii c t = grind (arith, nat_tests)

pub begins_ascii : (c : ℕ) → begins_name c ≡ true → c < 128
begins_ascii c t = grind (arith, nat_tests)

lifts_option : {S T : Type 0} (step : S → ℕ → Option S) (step' : T → ℕ → Option T) (other : S → T)
    → ((s t : S) (c : ℕ) → step s c ≡ Some t → step' (other s) c ≡ Some (other t))
    → (c : ℕ) (cs : List ℕ) (s u : S) → ((t : S) → run step cs t ≡ Some u → run step' cs (other t) ≡ Some (other u))
    → (o : Option S) → step s c ≡ o → option_and_then (run step cs) o ≡ Some u → run step' (c ∷ cs) (other s) ≡ Some (other u)
lifts_option step step' other one c cs s u rest None h e = cc
lifts_option step step' other one c cs s u rest (Some t) h e = run_cons step' c cs (other s) (other t) (one s t c h) ∙ rest t e

-- a run of a reader inside another
pub run_lifts : {S T : Type 0} (step : S → ℕ → Option S) (step' : T → ℕ → Option T) (other : S → T)
    → ((s t : S) (c : ℕ) → step s c ≡ Some t → step' (other s) c ≡ Some (other t))
    → (cs : List ℕ) (s u : S) → run step cs s ≡ Some u → run step' cs (other s) ≡ Some (other u)
run_lifts step step' other one [] s u e = ap Some (ap other (same e))
  where
    same : Some s ≡ Some u → s ≡ u
    same k = cc
run_lifts step step' other one (c ∷ cs) s u e =
    lifts_option step step' other one c cs s u (λ t k. run_lifts step step' other one cs t u k) (step s c) refl e

-- a reader that returned true went on
pub went : {S : Type 0} (b : Bool) (next : Option S) (now : S) → GoesOn b next now → b ≡ true → next ≡ Some now
went true next now h e = h
went false next now h e = cc

pub stuck : {S : Type 0} (b : Bool) (next : Option S) (now : S) → GoesOn b next now → b ≡ false → next ≡ None
stuck true next now h e = cc
stuck false next now h e = h
