-- Messages, and faults with them.
use Rattle.std.specs.Prelude.{◌≡◌, List, flat_map, string_bytes}
use Rattle.cargo_workspaces.specs.Workspaces.{Text}
use Rattle.feats_files.specs.declared.fault.Fault.{Fault}
use Rattle.feats_files.specs.declared.fault.Fault.TheVariants as fault

-- The texts, one after the other.
abbrev pub joined : List Text → Text
joined texts = flat_map (λ t. t) texts

-- The fault has such a message; nothing is claimed if an allocation failed.
abbrev pub Says : Fault → (Text → Type 0) → Type 0
Says (fault.Refused message) claim = claim (string_bytes message)
Says (fault.Listed message) claim = claim (string_bytes message)
Says fault.Memory claim = Unit {0}
Says fault.CannotWrite claim = ⊥

-- The fault has this message.
abbrev pub IsRefused : Text → Fault → Type 0
IsRefused text fault = Says fault (λ message. message ≡ text)
