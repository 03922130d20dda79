-- The fault of a malformed text.
use Rattle.std.specs.Prelude.{◌≡◌, ◌≢◌, ℕ, suc, ◌⊎◌, List, [], ◌∷◌, ◌++◌, length}
use Rattle.std.specs.Str.{chars, encode_utf8_all}
use Rattle.platform_specs.specs.Facts.{FactText}
use Rattle.platform_specs.specs.Expressions.{Spec}
use Rattle.platform_specs.specs.Grammar.{SpellsSpec, IsSpecText, SpellsLine, lines_of}
use Rattle.platform_specs.specs.declared.fault.SpecFault.{SpecFault}
use Rattle.platform_specs.specs.declared.fault.SpecFault.TheVariants.{Malformed, Memory}
use Rattle.platform_specs.specs.declared.fault.CfgFault.{CfgFault}
use Rattle.platform_specs.specs.declared.fault.CfgFault.TheVariants as cfg_faults

-- the text of some spec begins with these characters
abbrev pub BeginsSpec : List ℕ → Type 0
BeginsSpec front = (more : List ℕ) × (spec : Spec) × SpellsSpec spec (front ++ more)

-- no spec's text begins with these characters and the next one
abbrev pub EndsThere : List ℕ → List ℕ → Type 0
EndsThere front [] = Unit {0}
EndsThere front (c ∷ rest) = BeginsSpec (front ++ c ∷ []) → ⊥

-- The text spells no spec. Some spec's text begins with the characters before the byte `at`, and none begins
-- with the next character too, if there is one.
pub record IsMalformedAt (text : List ℕ) (at : ℕ) : Type 0 where
  pub front : List ℕ
  pub rest : List ℕ
  pub parts : chars text ≡ front ++ rest
  pub place : at ≡ length (encode_utf8_all front)
  pub begins : BeginsSpec front
  pub ends : EndsThere front rest
  pub unread : (spec : Spec) → IsSpecText text spec → ⊥

abbrev pub IsSpecFault : List ℕ → SpecFault → Type 0
IsSpecFault text (Malformed at) = IsMalformedAt text at
IsSpecFault text Memory = Unit {0}

-- the line isn't empty, and spells no fact
abbrev pub IsMalformedLine : List ℕ → Type 0
IsMalformedLine line = (line ≢ []) × ((f : FactText) → SpellsLine f line → ⊥)

-- the line is empty, or spells a fact
abbrev pub IsCfgLine : List ℕ → Type 0
IsCfgLine line = (line ≡ []) ⊎ ((f : FactText) × SpellsLine f line)

-- the first malformed line has this number, from 1
abbrev pub IsFirstMalformed : List (List ℕ) → ℕ → Type 0
IsFirstMalformed [] n = ⊥
IsFirstMalformed (line ∷ others) n = ((n ≡ 1) × IsMalformedLine line)
    ⊎ (IsCfgLine line × ((m : ℕ) × (n ≡ suc m) × IsFirstMalformed others m))

abbrev pub IsLinesFault : List (List ℕ) → CfgFault → Type 0
IsLinesFault ls (cfg_faults.Malformed line) = IsFirstMalformed ls line
IsLinesFault ls cfg_faults.Memory = Unit {0}

abbrev pub IsCfgFault : List ℕ → CfgFault → Type 0
IsCfgFault text fault = IsLinesFault (lines_of text) fault
