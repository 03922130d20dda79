-- The order of the keys of a map from ids.
use Rattle.std.specs.Borrow.{Bor}
use Rattle.std.specs.Ordering.{nat_cmp}
use Rattle.std.specs.Cmp.Lexicographic.{slice_cmp}
use Rattle.std.specs.declared.cmp.Ordering.{Ordering}
use Rattle.cargo_json.specs.Faults.{Text}

abbrev pub key_cmp : Bor Text → Bor Text → Ordering
key_cmp x y = slice_cmp nat_cmp x.now y.now
