-- The parts of an expression are printed as the expression is.
use Rattle.std.proofs.Common.{◌≡◌, ℕ, Bool, true, false, List, [], ◌∷◌, ◌++◌, refl, ap, sym, ◌∙◌, append_assoc, append-nil, codes}
use Rattle.platform_specs.specs.Expressions.{Expression, Expressions, fact, constant, not_of, all_of, any_of, no_more, part}
use Rattle.platform_specs.specs.Shown.{shown, parts_shown, others_shown, fact_shown, constant_shown}
use Rattle.platform_specs.specs.inner.Parts.{parts_of, joined, expression_of}
use Rattle.platform_specs.specs.inner.PartTexts.{operator_shown, is_closed, text_of, part_text, comma_unless}
use Rattle.platform_specs.specs.declared.parts.Operator.{Operator}
use Rattle.platform_specs.specs.declared.parts.Operator.TheVariants.{All, Any, Not}
use Rattle.platform_specs.specs.declared.parts.Part.{Part}
use Rattle.platform_specs.specs.declared.parts.Part.TheVariants.{Open, Constant, Fact, Join, Close}

-- no expression begins with the end of an operator
begins_open : (e : Expression) (ps : List Part) → is_closed (parts_of e ++ ps) ≡ false
begins_open (fact f) ps = refl
begins_open (constant b) ps = refl
begins_open (not_of e) ps = refl
begins_open (all_of es) ps = refl
begins_open (any_of es) ps = refl

around : (word a b c : List ℕ) → word ++ (a ++ (b ++ c)) ≡ (word ++ (a ++ b)) ++ c
around word a b c = ap (λ z. word ++ z) (sym (append_assoc a b c)) ∙ sym (append_assoc word (a ++ b) c)

mutual
  text_past : (e : Expression) (ps : List Part) → text_of (parts_of e ++ ps) ≡ shown e ++ text_of ps
  text_past (fact f) ps = refl
  text_past (constant b) ps = refl
  text_past (not_of e) ps =
      ap (λ z. codes "not(" ++ text_of z) (append_assoc (parts_of e) (Join Not ∷ Close ∷ []) ps)
      ∙ ap (λ z. codes "not(" ++ z) (text_past e (Join Not ∷ Close ∷ ps))
      ∙ around (codes "not(") (shown e) (codes ")") (text_of ps)
  text_past (all_of es) ps =
      ap (λ z. codes "all(" ++ text_of z) (append_assoc (joined All es) (Close ∷ []) ps)
      ∙ ap (λ z. codes "all(" ++ z) (text_past_all All es ps)
      ∙ around (codes "all(") (parts_shown es) (codes ")") (text_of ps)
  text_past (any_of es) ps =
      ap (λ z. codes "any(" ++ text_of z) (append_assoc (joined Any es) (Close ∷ []) ps)
      ∙ ap (λ z. codes "any(" ++ z) (text_past_all Any es ps)
      ∙ around (codes "any(") (parts_shown es) (codes ")") (text_of ps)

  text_past_all : (op : Operator) (es : Expressions) (ps : List Part) → text_of (joined op es ++ Close ∷ ps) ≡ parts_shown es ++ (codes ")" ++ text_of ps)
  text_past_all op no_more ps = refl
  text_past_all op (part e es) ps =
      ap text_of (append_assoc (parts_of e) (Join op ∷ joined op es) (Close ∷ ps))
      ∙ text_past e (Join op ∷ (joined op es ++ Close ∷ ps))
      ∙ ap (λ z. shown e ++ z) (text_past_others op es ps)
      ∙ sym (append_assoc (shown e) (others_shown es) (codes ")" ++ text_of ps))

  text_past_others : (op : Operator) (es : Expressions) (ps : List Part) → text_of (Join op ∷ (joined op es ++ Close ∷ ps)) ≡ others_shown es ++ (codes ")" ++ text_of ps)
  text_past_others op no_more ps = refl
  text_past_others op (part e es) ps =
      ap (λ z. comma_unless z ++ text_of (joined op (part e es) ++ Close ∷ ps)) (ap is_closed (append_assoc (parts_of e) (Join op ∷ joined op es) (Close ∷ ps)) ∙ begins_open e (Join op ∷ (joined op es ++ Close ∷ ps)))
      ∙ ap (λ z. codes ", " ++ text_of z) (append_assoc (parts_of e) (Join op ∷ joined op es) (Close ∷ ps))
      ∙ ap (λ z. codes ", " ++ z) (text_past e (Join op ∷ (joined op es ++ Close ∷ ps)))
      ∙ ap (λ z. codes ", " ++ (shown e ++ z)) (text_past_others op es ps)
      ∙ ap (λ z. codes ", " ++ z) (sym (append_assoc (shown e) (others_shown es) (codes ")" ++ text_of ps)))

-- parts that are those of an expression
pub text_expression : (ps : List Part) → parts_of (expression_of ps) ≡ ps → text_of ps ≡ shown (expression_of ps)
text_expression ps h =
    ap text_of (sym h ∙ sym (append-nil (parts_of (expression_of ps))))
    ∙ text_past (expression_of ps) []
    ∙ append-nil (shown (expression_of ps))
