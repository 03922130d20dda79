-- Faults with messages.
use Rattle.std.proofs.Common.{sym, subst}
use Rattle.std.specs.Prelude.{string_bytes}
use Rattle.cargo_workspaces.specs.Workspaces.{Text}
use Rattle.feats_files.specs.Messages.{IsRefused, Says}
use Rattle.feats_files.specs.declared.fault.Fault.{Fault}
use Rattle.feats_files.specs.declared.fault.Fault.TheVariants as fault

-- what holds of a message
pub says_of : (f : Fault) (text : Text) (P : Text → Type 0) → IsRefused text f → P text → Says f P
says_of (fault.Refused message) text P is p = subst P (sym is) p
says_of (fault.Listed message) text P is p = subst P (sym is) p
says_of fault.Memory text P is p = tt
says_of fault.CannotWrite text P is p = absurd is

pub says_more : (f : Fault) (P Q : Text → Type 0) → ((m : Text) → P m → Q m) → Says f P → Says f Q
says_more (fault.Refused message) P Q more p = more (string_bytes message) p
says_more (fault.Listed message) P Q more p = more (string_bytes message) p
says_more fault.Memory P Q more p = tt
says_more fault.CannotWrite P Q more p = absurd p
