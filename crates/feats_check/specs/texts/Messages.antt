-- Messages about policies that can't be checked.
use Rattle.std.specs.Prelude.{◌≡◌, ℕ, List, [], ◌∷◌, ◌++◌, not, filter, flat_map, codes}
use Rattle.std.specs.Str.{bytes_eq}
use Rattle.cargo_workspaces.specs.Workspaces.{PackageText, Text}
use Rattle.feats_files.specs.PackageWords.{word_at}
use Rattle.plan_names.specs.Names.{NamedText, PartText, dependency, feature, whole}
use Rattle.feats_policies.specs.Problems.{problem_text}
use Rattle.feats_policies.specs.Rules.{KindText, RuleText, deny, deny_duplicates, require}
use Rattle.feats_policies.specs.declared.fault.PolicyFault.{PolicyFault}
use Rattle.feats_policies.specs.declared.fault.PolicyFault.TheVariants as fault
use Rattle.feats_policies.specs.declared.problem.Problem.{Problem}
use Rattle.feats_policies.specs.checks.Builds.{BuildText}
use Rattle.feats_policies.specs.checks.Checks.{RefusalText, no_platform_in, out_of_memory, several_in}
use Rattle.feats_check.specs.texts.Lines.{place}
use Rattle.shown_texts.specs.Shown.{escaped}

-- The message about a malformed line of a file.
abbrev pub malformed_message : Text → ℕ → Problem → Text
malformed_message file line problem = place file line ++ problem_text problem

abbrev pub IsPolicyMessage : Text → PolicyFault → Text → Type 0
IsPolicyMessage file (fault.Malformed line problem) message = message ≡ malformed_message file line problem
IsPolicyMessage file fault.Memory message = ⊥

-- What follows the package in the name of a part.
abbrev pub part_end : PartText → Text
part_end whole = []
part_end (feature name) = codes "/" ++ escaped name
part_end (dependency name) = codes "/dep:" ++ escaped name

-- The line of a candidate: the word for the package, and the part.
abbrev pub candidate_line : List PackageText → NamedText → Text
candidate_line packages n = codes "\n  " ++ (escaped (word_at packages n.owner) ++ part_end n.part)

-- The beginning of a message about a word in a line of a file.
abbrev pub about : Text → ℕ → Text → Text → Text
about file line word wrong = place file line ++ (codes "`" ++ (escaped word ++ wrong))

-- The message about a word that means one of these parts.
abbrev pub several_message : List PackageText → Text → ℕ → Text → List NamedText → Text
several_message packages file line word candidates =
    about file line word (codes "` has several meanings: write one of these") ++ flat_map (candidate_line packages) candidates

abbrev pub triple_line : Text → Text
triple_line triple = codes "\n  " ++ escaped triple

-- Those of the triples that aren't the host's.
abbrev pub others_than : Text → List Text → List Text
others_than host triples = filter (λ t. not (bytes_eq t host)) triples

-- The message about a triple that is neither that of the host nor that of a target platform.
abbrev pub platform_message : BuildText → Text → ℕ → Text → Text
platform_message b file line triple =
    about file line triple (codes "` is neither the host nor a target of this build: write one of these") ++ flat_map triple_line (b.host ∷ others_than b.host b.targets)

-- The message about a rule that can't be checked.
abbrev pub IsCheckMessage : BuildText → Text → RefusalText → Text → Type 0
IsCheckMessage b file (several_in line word candidates) message = message ≡ several_message b.packages file line word candidates
IsCheckMessage b file (no_platform_in line triple) message = message ≡ platform_message b file line triple
IsCheckMessage b file out_of_memory message = ⊥

-- The word that a rule is about.
abbrev pub word_of : KindText → Text
word_of (deny word on) = word
word_of (require word) = word
word_of (deny_duplicates word) = word

-- The message about a rule whose word names nothing.
abbrev pub unmatched_message : Text → RuleText → Text
unmatched_message file r = about file r.line (word_of r.kind) (codes "` names nothing in the document: check the spelling, or leave the rule out")

-- The message about a policy with rules that aren't judged for every choice.
abbrev pub build_message : Text → Text
build_message file = escaped file ++ codes ": `require` and `deny-duplicates` are judged for this build alone"
