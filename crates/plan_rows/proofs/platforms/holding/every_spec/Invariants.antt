use Rattle.std.proofs.Common.{◌≡◌, ◌||◌, ℕ, List, map, drop}
use Rattle.plan_rows.specs.platforms.HeldSpecs.{holds_on, is_declared}
use Rattle.plan_rows.specs.platforms.Views.{declared_text}
use Rattle.plan_rows.proofs.platforms.holding.every_spec.Given as goal

abbrev pub invariant-loop-declared : goal.invariant-loop-declared
invariant-loop-declared l =
    (text : List ℕ) → is_declared (map declared_text l.specs) text ≡ holds_on l.held text || is_declared (map declared_text (drop l.declared-index l.specs)) text
