-- What reading the words of lines returns.
use Rattle.std.specs.Prelude.{◌≡◌, List, [], ◌∷◌, ◌++◌, ℕ, Ok, Err, Some, Result, flat_map, slice_get}
use Rattle.feats_policies.specs.Lines.{Text}
use Rattle.feats_policies.specs.Policies.{problem_at, problem_by, rule_at, rule_by}
use Rattle.feats_policies.specs.Rules.{KindText, RuleText}
use Rattle.feats_policies.specs.Views.{kind_text}
use Rattle.feats_policies.specs.declared.fault.PolicyFault.{PolicyFault}
use Rattle.feats_policies.specs.declared.fault.PolicyFault.TheVariants as fault
use Rattle.feats_policies.specs.declared.problem.Problem.{Problem}
use Rattle.feats_policies.specs.declared.rule.RuleKind.{RuleKind}

-- The words spell this rule, or have this problem.
abbrev pub Reads : Result RuleKind Problem → Result KindText Problem → Type 0
Reads (Ok kind) spelled = spelled ≡ Ok (kind_text kind)
Reads (Err problem) spelled = spelled ≡ Err problem

-- The words of a line have no problem, and their rule, if they are a rule's, was appended.
pub record Adds (old new : List RuleText) (number : ℕ) (line : Text) (words : List Text) : Type 0 where
  pub is_well_formed : problem_by number words ≡ []
  pub is_added : new ≡ old ++ rule_by number line words

-- The words have this problem. Nothing is claimed if an allocation fails.
abbrev pub IsProblemOf : ℕ → List Text → PolicyFault → Type 0
IsProblemOf number words (fault.Malformed line problem) = problem_by number words ≡ (line, problem) ∷ []
IsProblemOf number words fault.Memory = Unit {0}

-- These are the rules of numbered lines, of which none is malformed.
pub record AreRules (ls : List (ℕ × Text)) (rules : List RuleText) : Type 0 where
  pub are_well_formed : flat_map problem_at ls ≡ []
  pub are_rules : rules ≡ flat_map rule_at ls

-- The fault is the first malformed one of numbered lines.
abbrev pub IsFirstProblem : List (ℕ × Text) → PolicyFault → Type 0
IsFirstProblem ls (fault.Malformed line problem) = slice_get (flat_map problem_at ls) 0 ≡ Some (line, problem)
IsFirstProblem ls fault.Memory = Unit {0}
