use Rattle.std.proofs.Common.{◌≡◌, ◌≤◌, Bool, true, length, map}
use Rattle.std.specs.List.{list_all}
use Rattle.plan_names.specs.Names.{NamedText}
use Rattle.plan_names.specs.Views.{named_text}
use Rattle.plan_names.specs.inner.Nears.{near_text}
use Rattle.plan_names.proofs.nearest_parts.nearest.Given as goal

abbrev pub invariant-loop-distance : goal.invariant-loop-distance
invariant-loop-distance l =
    ((test : NamedText → Bool) → list_all test (map near_text l.near) ≡ true → list_all test (map named_text l.named.items) ≡ true)
    × (length l.named.items ≤ 3)
