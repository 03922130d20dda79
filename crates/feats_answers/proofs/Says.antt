-- Faults with messages.
use Rattle.std.proofs.Common.{◌≡◌, Result, Ok, Err}
use Rattle.std.specs.Prelude.{IfErr, List, string_bytes}
use Rattle.cargo_workspaces.specs.Workspaces.{Text, PackageText}
use Rattle.plan_names.specs.Faults.{NameRefusal, IfNotMemory, unknown, several, out_of_memory}
use Rattle.feats_files.specs.Messages.{Says}
use Rattle.feats_files.specs.declared.fault.Fault.{Fault}
use Rattle.feats_files.specs.declared.fault.Fault.TheVariants as fault
use Rattle.feats_answers.specs.NameMessages.{IsNameMessage, IsNameRefusal}

pub says_more : (f : Fault) (P Q : Text → Type 0) → ((m : Text) → P m → Q m) → Says f P → Says f Q
says_more (fault.Refused message) P Q more p = more (string_bytes message) p
says_more (fault.Listed message) P Q more p = more (string_bytes message) p
says_more fault.Memory P Q more p = tt
says_more fault.CannotWrite P Q more p = absurd p

-- the message of a refusal
pub says_name : {X : Type 0} (packages : List PackageText) (given : Result X NameRefusal) (f : Fault) (refusal : NameRefusal) → IfNotMemory refusal (given ≡ Err refusal) → Says f (IsNameMessage packages refusal) → Says f (IsNameRefusal packages given)
says_name packages given f (unknown word) is h = says_more f (IsNameMessage packages (unknown word)) (IsNameRefusal packages given) (λ m says. (unknown word, is, says)) h
says_name packages given f (several word candidates) is h = says_more f (IsNameMessage packages (several word candidates)) (IsNameRefusal packages given) (λ m says. (several word candidates, is, says)) h
says_name packages given f out_of_memory is h = says_more f (IsNameMessage packages out_of_memory) (IsNameRefusal packages given) (λ m says. absurd says) h

-- what follows from an error
pub err_more : {V : Type 0} (r : Result V Fault) (P Q : Text → Type 0) → ((m : Text) → P m → Q m) → IfErr r (λ f. Says f P) → IfErr r (λ f. Says f Q)
err_more (Ok v) P Q more h = tt
err_more (Err f) P Q more h = says_more f P Q more h
