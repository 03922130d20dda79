-- A policy: the rules of its lines, or the first malformed line.
use Rattle.std.specs.Prelude.{◌≡◌, ℕ, List, [], ◌∷◌, Some, Ok, Err, Result, flat_map, slice_get}
use Rattle.std.specs.List.{enumerate_from}
use Rattle.std.specs.Str.Lines.{lines}
use Rattle.feats_policies.specs.Lines.{Text, reason_of, words_of}
use Rattle.feats_policies.specs.Rules.{KindText, RuleText, kind_of}
use Rattle.feats_policies.specs.declared.fault.PolicyFault.{PolicyFault}
use Rattle.feats_policies.specs.declared.fault.PolicyFault.TheVariants as fault
use Rattle.feats_policies.specs.declared.problem.Problem.{Problem}

-- The lines of a text, each after its number. The first has number 1. A line ends with a line feed, or with a carriage return and one.
abbrev pub numbered_lines : Text → List (ℕ × Text)
numbered_lines text = enumerate_from 1 (lines text)

-- The rule of a line that spells one.
abbrev pub rule_if : ℕ → Text → Result KindText Problem → List RuleText
rule_if number line (Ok kind) = record { line = number; kind = kind; reason = reason_of line } ∷ []
rule_if number line (Err problem) = []

-- The problem of a line that spells none.
abbrev pub problem_if : ℕ → Result KindText Problem → List (ℕ × Problem)
problem_if number (Ok kind) = []
problem_if number (Err problem) = (number, problem) ∷ []

-- A line without words is skipped.
abbrev pub rule_by : ℕ → Text → List Text → List RuleText
rule_by number line [] = []
rule_by number line (verb ∷ words) = rule_if number line (kind_of verb words)

abbrev pub problem_by : ℕ → List Text → List (ℕ × Problem)
problem_by number [] = []
problem_by number (verb ∷ words) = problem_if number (kind_of verb words)

-- The rule of a numbered line, and its problem; a line has one of these at most.
abbrev pub rule_at : ℕ × Text → List RuleText
rule_at l = rule_by l.0 l.1 (words_of l.1)

abbrev pub problem_at : ℕ × Text → List (ℕ × Problem)
problem_at l = problem_by l.0 (words_of l.1)

-- All rules of a text, and all malformed lines, in the order of the lines.
abbrev pub rules_in : Text → List RuleText
rules_in text = flat_map rule_at (numbered_lines text)

abbrev pub malformed_in : Text → List (ℕ × Problem)
malformed_in text = flat_map problem_at (numbered_lines text)

-- THE RULES of a text, which has no malformed line.
pub record ArePolicy (text : Text) (rules : List RuleText) : Type 0 where
  pub are_well_formed : malformed_in text ≡ []
  pub are_rules : rules ≡ rules_in text

-- The fault is the first malformed line. Nothing is claimed if an allocation fails.
abbrev pub IsPolicyFault : Text → PolicyFault → Type 0
IsPolicyFault text (fault.Malformed line problem) = slice_get (malformed_in text) 0 ≡ Some (line, problem)
IsPolicyFault text fault.Memory = Unit {0}
