-- The lists of a built graph have an entry for each package or node.
use Rattle.std.proofs.Common.{◌≡◌, ℕ, ◌+◌, ◌<◌, Bool, false, List, zero, suc, length, map, arith, refl, ap, sym, ◌∙◌, Some}
use Rattle.std.specs.Prelude.{slice_get}
use Rattle.std.specs.List.{range_with_len}
use Rattle.std.proofs.lemmas.List.{length-map}
use Rattle.std.proofs.lemmas.Option.{slice_get-get_or}
use Rattle.feature_graph_c.specs.binary.Records.{flag, number}
use Rattle.feature_graph_c.proofs.EntryLemmas.{entry_of}
use Rattle.digraphs.specs.Bits.{has}
use Rattle.guppy_packages.specs.Tables.{Tables}
use Rattle.feature_core.specs.Built.{Built, IsBuilt}
use Rattle.feature_core.specs.Nodes.{first_node}

long_range : (a n : ℕ) → length (range_with_len a n) ≡ n
long_range a zero = refl
long_range a (suc n) = ap suc (long_range (a + 1) n)

-- The number of packages is the number of first nodes.
pub first_count : (t : Tables) (b : Built) → IsBuilt t b → length t.packages ≡ length b.firsts
first_count t b built = sym (ap length built.firsts ∙ length-map (range_with_len 0 (length t.packages)) (first_node t) ∙ long_range 0 (length t.packages))

pub first_records : (t : Tables) (b : Built) → IsBuilt t b → length t.packages ≡ length (map number b.firsts)
first_records t b built = first_count t b built ∙ sym (length-map b.firsts number)

-- The number of nodes is the number of marks.
pub mark_count : (t : Tables) (b : Built) → IsBuilt t b → length b.packages ≡ length b.defaults
mark_count t b built = ap length built.packages ∙ sym built.defaults.long

pub mark_records : (t : Tables) (b : Built) → IsBuilt t b → length b.packages ≡ length (map flag b.defaults)
mark_records t b built = mark_count t b built ∙ sym (length-map b.defaults flag)

pub mark_at : (marks : List Bool) (i : ℕ) → i < length (map flag marks) → slice_get (map flag marks) i ≡ Some (flag (has marks i))
mark_at marks i h = entry_of flag marks i (has marks i) (slice_get-get_or marks i false (omega (arith, h, length-map marks flag)))
