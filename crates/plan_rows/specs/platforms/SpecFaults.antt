-- Which fault the specs of a workspace have.
use Rattle.std.specs.Prelude.{◌≡◌, ℕ, List, ◌∷◌, ◌++◌}
use Rattle.std.specs.List.{AllByRecursion}
use Rattle.platform_specs.specs.Expressions.{Spec}
use Rattle.platform_specs.specs.Grammar.{IsSpecText}
use Rattle.platform_specs.specs.Faults.{IsMalformedAt}
use Rattle.plan_rows.specs.platforms.DeclaredSpecs.{DeclaredText}
use Rattle.plan_rows.specs.declared.platforms.fault.PlatformFault.{PlatformFault}
use Rattle.plan_rows.specs.declared.platforms.fault.PlatformFault.TheVariants.{Malformed, Memory}

-- Each of the texts spells a spec.
abbrev pub AllSpell : List DeclaredText → Type 0
AllSpell = AllByRecursion (λ s. (spec : Spec) × IsSpecText s.text spec)

-- The first of the texts that spells no spec, and the byte up to which a spec begins as it does.
pub record IsFirstMalformed (specs : List DeclaredText) (bad : DeclaredText) (at : ℕ) : Type 0 where
  pub before : List DeclaredText
  pub after : List DeclaredText
  pub parts : specs ≡ before ++ bad ∷ after
  pub spelled : AllSpell before
  pub malformed : IsMalformedAt bad.text at

abbrev pub IsFaultOf : List DeclaredText → PlatformFault → Type 0
IsFaultOf specs (Malformed p spec at) = IsFirstMalformed specs (record { owner = p; text = spec.now }) at
IsFaultOf specs Memory = Unit {0}

-- This text is malformed.
abbrev pub IsFaultAt : DeclaredText → PlatformFault → Type 0
IsFaultAt s (Malformed p spec at) = (record { owner = p; text = spec.now } ≡ s) × IsMalformedAt s.text at
IsFaultAt s Memory = Unit {0}
