use Rattle.std.proofs.Common.{◌≡◌, ◌≤◌, Bool, true, length, map}
use Rattle.std.specs.List.{list_all}
use Rattle.plan_names.specs.Names.{NamedText}
use Rattle.plan_names.specs.Views.{named_text}
use Rattle.plan_names.specs.inner.Nears.{near_text}
use Rattle.plan_names.proofs.nearest_parts.push_at.Given as goal

abbrev pub invariant-loop-item : goal.invariant-loop-item
invariant-loop-item l =
    ((test : NamedText → Bool) → list_all test (map near_text l.near) ≡ true → list_all test (map named_text l.initial.named.items) ≡ true → list_all test (map named_text l.named.items) ≡ true)
    × (length l.initial.named.items ≤ 3 → length l.named.items ≤ 3)
