-- How the parts of an expression are printed.
use Rattle.std.specs.Prelude.{ℕ, Bool, true, false, List, [], ◌∷◌, ◌++◌, codes}
use Rattle.platform_specs.specs.Shown.{fact_shown, constant_shown}
use Rattle.platform_specs.specs.declared.parts.Operator.{Operator}
use Rattle.platform_specs.specs.declared.parts.Operator.TheVariants.{All, Any, Not}
use Rattle.platform_specs.specs.declared.parts.Part.{Part}
use Rattle.platform_specs.specs.declared.parts.Part.TheVariants.{Open, Constant, Fact, Join, Close}

abbrev pub operator_shown : Operator → List ℕ
operator_shown All = codes "all"
operator_shown Any = codes "any"
operator_shown Not = codes "not"

-- an operator ends here
abbrev pub is_closed : List Part → Bool
is_closed [] = false
is_closed (Open op ∷ ps) = false
is_closed (Constant b ∷ ps) = false
is_closed (Fact f ∷ ps) = false
is_closed (Join op ∷ ps) = false
is_closed (Close ∷ ps) = true

abbrev pub comma_unless : Bool → List ℕ
comma_unless true = []
comma_unless false = codes ", "

-- a part, where it is known whether the operator ends behind it
abbrev pub part_text : Part → Bool → List ℕ
part_text (Open op) last = operator_shown op ++ codes "("
part_text (Constant b) last = constant_shown b
part_text (Fact f) last = fact_shown f
part_text (Join op) last = comma_unless last
part_text Close last = codes ")"

abbrev pub text_of : List Part → List ℕ
text_of [] = []
text_of (p ∷ ps) = part_text p (is_closed ps) ++ text_of ps
