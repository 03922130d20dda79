-- Each item of a view is a number of its kind.
use Rattle.std.proofs.Common.{ℕ, suc, zero, ◌<◌, length, All, arith}
use Rattle.std.proofs.lemmas.List.Elements.{All-filter, All-nil, All-cons, All-weaker}
use Rattle.guppy_support.specs.Cycles.{descending, has_cycle}
use Rattle.guppy_support.specs.Laws.{RootsAreNodes, CyclesAreNumbered}
use Rattle.guppy_support.specs.Views.{in_order, is_root}
use Rattle.guppy_support.proofs.LinkSteps.{members_below}

pub roots_below : RootsAreNodes
roots_below r es o set = All-filter (is_root r es o set) (λ v. v < length set) (in_order r o.list set) (members_below r o.list set)

descending_below : (n : ℕ) → All (λ c. c < n) (descending n)
descending_below zero = All-nil (λ c. c < 0)
descending_below (suc n) = All-cons (λ c. c < suc n) n (descending n) (omega arith) (All-weaker (λ c. c < n) (λ c. c < suc n) (λ c h. omega arith) (descending n) (descending_below n))

pub cycles_below : CyclesAreNumbered
cycles_below es o = All-filter (has_cycle es o) (λ c. c < o.count) (descending o.count) (descending_below o.count)
