-- The walk over an expression's parts ends with its truth.
use Rattle.std.proofs.Common.{◌≡◌, ℕ, suc, Bool, true, false, ◌&&◌, ◌||◌, List, [], ◌∷◌, ◌++◌, refl, ap, sym, cond, ◌∙◌, append_assoc, append-nil, add-one, arith}
use Rattle.std.proofs.Math.Dec.{eqb-suc-zero}
use Rattle.platform_specs.specs.Facts.{FactText}
use Rattle.platform_specs.specs.Expressions.{Expression, Expressions, fact, constant, not_of, all_of, any_of, no_more, part}
use Rattle.platform_specs.specs.inner.Parts.{parts_of, joined, expression_of}
use Rattle.platform_specs.specs.Truth.{truth_in, every_holds, some_holds}
use Rattle.platform_specs.specs.inner.Walk.{walking, walk_step, walk_over, at_join, read_part, skip_part}
use Rattle.platform_specs.specs.declared.walk.Walk.{Walk}
use Rattle.platform_specs.specs.declared.parts.Operator.{Operator}
use Rattle.platform_specs.specs.declared.parts.Operator.TheVariants.{All, Any, Not}
use Rattle.platform_specs.specs.declared.parts.Part.{Part}
use Rattle.platform_specs.specs.declared.parts.Part.TheVariants.{Open, Constant, Fact, Join, Close}

-- the walk that skips n + 1 operators up to their `Close`
abbrev at : Bool → ℕ → Walk
at v n = record { value = v; skipped = suc n }

-- a skipped part only changes the count
skip_step : (known : List FactText) (p : Part) (v : Bool) (n : ℕ) → walk_step known p (at v n) ≡ record { value = v; skipped = skip_part p (suc n) }
skip_step known p v n = ap (λ b. cond b (read_part known p v) (record { value = v; skipped = skip_part p (suc n) })) (eqb-suc-zero n)

skip_one : (known : List FactText) (p : Part) (ps : List Part) (v : Bool) (n m : ℕ) → skip_part p (suc n) ≡ m → walk_over known (p ∷ ps) (at v n) ≡ walk_over known ps (record { value = v; skipped = m })
skip_one known p ps v n m e = ap (walk_over known ps) (skip_step known p v n ∙ ap (λ (k : ℕ). record { value = v; skipped = k }) e)

skip_open : (known : List FactText) (op : Operator) (ps : List Part) (v : Bool) (n : ℕ) → walk_over known (Open op ∷ ps) (at v n) ≡ walk_over known ps (at v (suc n))
skip_open known op ps v n = skip_one known (Open op) ps v n _ (add-one (suc n))

skip_close : (known : List FactText) (ps : List Part) (v : Bool) (n : ℕ) → walk_over known (Close ∷ ps) (at v (suc n)) ≡ walk_over known ps (at v n)
skip_close known ps v n = skip_one known Close ps v (suc n) (suc n) (omega arith)

skip_last : (known : List FactText) (ps : List Part) (v : Bool) → walk_over known (Close ∷ ps) (at v 0) ≡ walk_over known ps (walking v)
skip_last known ps v = skip_one known Close ps v 0 0 refl

mutual
  -- the parts of a skipped expression change nothing
  skip_parts : (known : List FactText) (e : Expression) (ps : List Part) (v : Bool) (n : ℕ) → walk_over known (parts_of e ++ ps) (at v n) ≡ walk_over known ps (at v n)
  skip_parts known (fact f) ps v n = skip_one known (Fact f) ps v n _ refl
  skip_parts known (constant b) ps v n = skip_one known (Constant b) ps v n _ refl
  skip_parts known (not_of e) ps v n =
      skip_open known Not ((parts_of e ++ (Join Not ∷ Close ∷ [])) ++ ps) v n
      ∙ ap (λ qs. walk_over known qs (at v (suc n))) (append_assoc (parts_of e) (Join Not ∷ Close ∷ []) ps)
      ∙ skip_parts known e (Join Not ∷ Close ∷ ps) v (suc n)
      ∙ skip_one known (Join Not) (Close ∷ ps) v (suc n) _ refl
      ∙ skip_close known ps v n
  skip_parts known (all_of es) ps v n =
      skip_open known All ((joined All es ++ (Close ∷ [])) ++ ps) v n
      ∙ ap (λ qs. walk_over known qs (at v (suc n))) (append_assoc (joined All es) (Close ∷ []) ps)
      ∙ skip_joined known All es (Close ∷ ps) v (suc n)
      ∙ skip_close known ps v n
  skip_parts known (any_of es) ps v n =
      skip_open known Any ((joined Any es ++ (Close ∷ [])) ++ ps) v n
      ∙ ap (λ qs. walk_over known qs (at v (suc n))) (append_assoc (joined Any es) (Close ∷ []) ps)
      ∙ skip_joined known Any es (Close ∷ ps) v (suc n)
      ∙ skip_close known ps v n

  skip_joined : (known : List FactText) (op : Operator) (es : Expressions) (ps : List Part) (v : Bool) (n : ℕ) → walk_over known (joined op es ++ ps) (at v n) ≡ walk_over known ps (at v n)
  skip_joined known op no_more ps v n = refl
  skip_joined known op (part e es) ps v n =
      ap (λ qs. walk_over known qs (at v n)) (append_assoc (parts_of e) (Join op ∷ joined op es) ps)
      ∙ skip_parts known e (Join op ∷ (joined op es ++ ps)) v n
      ∙ skip_one known (Join op) (joined op es ++ ps) v n _ refl
      ∙ skip_joined known op es ps v n

-- after a part of `all`
at_all : (known : List FactText) (es : Expressions) (ps : List Part) → walk_over known (joined All es ++ (Close ∷ ps)) (walking true) ≡ walk_over known ps (walking (every_holds known es))
    → (b : Bool) → walk_over known (joined All es ++ (Close ∷ ps)) (at_join All b) ≡ walk_over known ps (walking (b && every_holds known es))
at_all known es ps rest true = rest
at_all known es ps rest false = skip_joined known All es (Close ∷ ps) false 0 ∙ skip_last known ps false

-- after a part of `any`
at_any : (known : List FactText) (es : Expressions) (ps : List Part) → walk_over known (joined Any es ++ (Close ∷ ps)) (walking false) ≡ walk_over known ps (walking (some_holds known es))
    → (b : Bool) → walk_over known (joined Any es ++ (Close ∷ ps)) (at_join Any b) ≡ walk_over known ps (walking (b || some_holds known es))
at_any known es ps rest true = skip_joined known Any es (Close ∷ ps) true 0 ∙ skip_last known ps true
at_any known es ps rest false = rest

mutual
  -- after an expression's parts, the value is its truth
  pub walk_past : (known : List FactText) (e : Expression) (ps : List Part) (v : Bool) → walk_over known (parts_of e ++ ps) (walking v) ≡ walk_over known ps (walking (truth_in known e))
  walk_past known (fact f) ps v = refl
  walk_past known (constant b) ps v = refl
  walk_past known (not_of e) ps v =
      ap (λ qs. walk_over known qs (walking true)) (append_assoc (parts_of e) (Join Not ∷ Close ∷ []) ps)
      ∙ walk_past known e (Join Not ∷ Close ∷ ps) true
  walk_past known (all_of es) ps v =
      ap (λ qs. walk_over known qs (walking true)) (append_assoc (joined All es) (Close ∷ []) ps)
      ∙ walk_past_all known es ps
  walk_past known (any_of es) ps v =
      ap (λ qs. walk_over known qs (walking false)) (append_assoc (joined Any es) (Close ∷ []) ps)
      ∙ walk_past_any known es ps

  walk_past_all : (known : List FactText) (es : Expressions) (ps : List Part) → walk_over known (joined All es ++ (Close ∷ ps)) (walking true) ≡ walk_over known ps (walking (every_holds known es))
  walk_past_all known no_more ps = refl
  walk_past_all known (part e es) ps =
      ap (λ qs. walk_over known qs (walking true)) (append_assoc (parts_of e) (Join All ∷ joined All es) (Close ∷ ps))
      ∙ walk_past known e (Join All ∷ (joined All es ++ (Close ∷ ps))) true
      ∙ at_all known es ps (walk_past_all known es ps) (truth_in known e)

  walk_past_any : (known : List FactText) (es : Expressions) (ps : List Part) → walk_over known (joined Any es ++ (Close ∷ ps)) (walking false) ≡ walk_over known ps (walking (some_holds known es))
  walk_past_any known no_more ps = refl
  walk_past_any known (part e es) ps =
      ap (λ qs. walk_over known qs (walking false)) (append_assoc (parts_of e) (Join Any ∷ joined Any es) (Close ∷ ps))
      ∙ walk_past known e (Join Any ∷ (joined Any es ++ (Close ∷ ps))) false
      ∙ at_any known es ps (walk_past_any known es ps) (truth_in known e)

-- the walk over an expression's parts computes its truth
pub walk_truth : (known : List FactText) (e : Expression) → (walk_over known (parts_of e) (walking true)).value ≡ truth_in known e
walk_truth known e = ap (λ ps. (walk_over known ps (walking true)).value) (sym (append-nil (parts_of e))) ∙ ap (λ (w : Walk). w.value) (walk_past known e [] true)

-- the same for parts that are an expression's
pub walk_expression : (known : List FactText) (ps : List Part) → parts_of (expression_of ps) ≡ ps → (walk_over known ps (walking true)).value ≡ truth_in known (expression_of ps)
walk_expression known ps h = ap (λ qs. (walk_over known qs (walking true)).value) (sym h) ∙ walk_truth known (expression_of ps)
