-- The spec texts that hold for a target.
use Rattle.std.specs.Prelude.{◌≡◌, List, [], ◌∷◌, IsTrue, if◌then◌else◌}
use Rattle.guppy_packages.specs.Rows.{Text}
use Rattle.platform_specs.specs.Expressions.{Spec, Target}
use Rattle.platform_specs.specs.Grammar.{IsSpecText}
use Rattle.platform_specs.specs.Truth.{truth_of}

-- the text spells a spec that holds
abbrev pub Holds : Target → Text → Type 0
Holds target text = (spec : Spec) × IsSpecText text spec × IsTrue (truth_of target spec)

-- THE TEXTS THAT HOLD: each text spells a spec, and is listed, in order, if the spec holds
abbrev pub AreHeld : Target → List Text → List Text → Type 0
AreHeld target [] held = held ≡ []
AreHeld target (text ∷ others) held = (spec : Spec) × (rest : List Text) × IsSpecText text spec × AreHeld target others rest
    × (held ≡ (if truth_of target spec then text ∷ rest else rest))
