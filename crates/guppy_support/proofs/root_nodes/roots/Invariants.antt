use Rattle.std.proofs.Common.{◌≡◌, ◌<◌, ◌++◌, length, All}
use Rattle.std.specs.Prelude.{filter}
use Rattle.guppy_support.specs.Views.{is_root, roots_in_order}
use Rattle.guppy_support.proofs.root_nodes.roots.Given as goal

-- The roots so far, and those of the remaining members, are the whole list.
abbrev pub invariant-loop-node : goal.invariant-loop-node
invariant-loop-node l = record {
  within : All (λ v. v < length l.order.list) l.node-iterator;
  roots : l.roots.items ++ filter (is_root l.fn.reading l.digraph.edges l.order l.members) l.node-iterator
      ≡ roots_in_order l.fn.reading l.digraph.edges l.order l.members;
}
