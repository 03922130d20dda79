-- Faults with messages.
use Rattle.std.proofs.Common.{Result, Ok, Err}
use Rattle.std.specs.Prelude.{IfErr, string_bytes}
use Rattle.cargo_workspaces.specs.Workspaces.{Text}
use Rattle.feats_files.specs.Messages.{Says}
use Rattle.feats_files.specs.declared.fault.Fault.{Fault}
use Rattle.feats_files.specs.declared.fault.Fault.TheVariants as fault

pub says_more : (f : Fault) (P Q : Text → Type 0) → ((m : Text) → P m → Q m) → Says f P → Says f Q
says_more (fault.Refused message) P Q more p = more (string_bytes message) p
says_more (fault.Listed message) P Q more p = more (string_bytes message) p
says_more fault.Memory P Q more p = tt
says_more fault.CannotWrite P Q more p = absurd p

-- for a result that is returned as it is
module _ {X : Type 0} where
  pub if_err_more : (r : Result X Fault) (P Q : Text → Type 0) → ((m : Text) → P m → Q m) → IfErr r (λ f. Says f P) → IfErr r (λ f. Says f Q)
  if_err_more (Ok x) P Q more h = tt
  if_err_more (Err f) P Q more h = says_more f P Q more h
