use Rattle.std.proofs.Common.{◌≡◌, ◌++◌, filter, drop}
use Rattle.cargo_manifests.specs.inherited.Entries.{is_mark}
use Rattle.cargo_manifests.proofs.inherited.sections.marks.Given as goal

abbrev pub invariant-loop-byte : goal.invariant-loop-byte
invariant-loop-byte l = filter is_mark l.text ≡ l.marks.items ++ filter is_mark (drop l.byte-index l.text)
