-- The storage of a `Spec`: an expression is stored as the list of its parts, from which it can be read back.
use Rattle.std.specs.Prelude.{◌≡◌, ℕ, List, [], ◌∷◌, ◌++◌, ◌⊎◌, refl}
use Rattle.std.specs.Coded.{Coded, code_by, coded⊎, coded_list, coded_ℕ}
use Rattle.std.proofs.Common.{ap, sym, ◌∙◌, append_assoc, inl, inr, append-nil}
use Rattle.platform_specs.specs.Expressions.{Expression, Expressions, fact, constant, not_of, all_of, any_of, no_more, part, Spec, platform, cfg}
use Rattle.platform_specs.specs.inner.Parts.{parts_of, joined, Levels, levels_of, with_part, opened_by, first_of_them, expression_of}
use Rattle.platform_specs.specs.declared.parts.Operator.{Operator}
use Rattle.platform_specs.specs.declared.parts.Operator.TheVariants.{All, Any, Not}
use Rattle.platform_specs.specs.declared.parts.Part.{Part}
use Rattle.platform_specs.specs.declared.parts.Part.TheVariants.{Join, Close}

mutual
  -- the parts of an expression, then other parts, read back as the expression, then the others
  pub levels_past : (e : Expression) (ps : List Part) → levels_of (parts_of e ++ ps) ≡ with_part e (levels_of ps)
  levels_past (fact f) ps = refl
  levels_past (constant b) ps = refl
  levels_past (not_of e) ps = ap (opened_by Not)
      (ap levels_of (append_assoc (parts_of e) (Join Not ∷ Close ∷ []) ps) ∙ levels_past e (Join Not ∷ Close ∷ ps))
  levels_past (all_of es) ps = ap (opened_by All)
      (ap levels_of (append_assoc (joined All es) (Close ∷ []) ps) ∙ levels_past_all All es ps)
  levels_past (any_of es) ps = ap (opened_by Any)
      (ap levels_of (append_assoc (joined Any es) (Close ∷ []) ps) ∙ levels_past_all Any es ps)

  levels_past_all : (op : Operator) (es : Expressions) (ps : List Part)
      → levels_of (joined op es ++ Close ∷ ps) ≡ record { here = es; outer = (levels_of ps).here ∷ (levels_of ps).outer }
  levels_past_all op no_more ps = refl
  levels_past_all op (part e es) ps =
      ap levels_of (append_assoc (parts_of e) (Join op ∷ joined op es) (Close ∷ ps))
      ∙ levels_past e (Join op ∷ (joined op es ++ Close ∷ ps))
      ∙ ap (with_part e) (levels_past_all op es ps)

-- an expression is read back from its parts
pub expression_of-parts_of : (e : Expression) → expression_of (parts_of e) ≡ e
expression_of-parts_of e = ap (λ ps. first_of_them (levels_of ps).here) (sym (append-nil (parts_of e)))
    ∙ ap (λ (l : Levels). first_of_them l.here) (levels_past e [])

abbrev to_stored : Spec → List ℕ ⊎ List Part
to_stored (platform name) = inl name
to_stored (cfg e) = inr (parts_of e)

abbrev from_stored : List ℕ ⊎ List Part → Spec
from_stored (inl name) = platform name
from_stored (inr ps) = cfg (expression_of ps)

pub from_stored-to_stored : (spec : Spec) → from_stored (to_stored spec) ≡ spec
from_stored-to_stored (platform name) = refl
from_stored-to_stored (cfg e) = ap cfg (expression_of-parts_of e)

abbrev pub spec_code : Coded Part → Coded Spec
spec_code part_code = code_by (List ℕ ⊎ List Part) (coded⊎ (coded_list coded_ℕ) (coded_list part_code)) to_stored from_stored from_stored-to_stored
