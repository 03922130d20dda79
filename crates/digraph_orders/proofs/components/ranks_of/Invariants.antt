use Rattle.std.proofs.Common.{◌≡◌, ◌≢◌, ℕ, ◌+◌, ◌-◌, ◌<◌, ◌≤◌, true, false, length, slice_index}
use Rattle.digraphs.specs.Bits.{has}
use Rattle.digraph_orders.proofs.components.ranks_of.Given as goal

abbrev pub invariant-loop-node : goal.invariant-loop-node
invariant-loop-node l =
    record {
      long : length l.ranks.items ≡ length l.initial.ranks.items;
      firsts_long : length l.firsts.items ≡ length l.initial.ranks.items;
      rest : (v : ℕ) → l.node ≤ v → slice_index l.ranks.items v ≡ slice_index l.initial.ranks.items v;
      lone : (v : ℕ) → v < l.node → has l.several v ≡ false → slice_index l.ranks.items v ≡ v;
      first : (v : ℕ) → v < l.node → has l.several v ≡ true → slice_index l.ranks.items v + 1 ≡ slice_index l.firsts.items (slice_index l.initial.ranks.items v - l.base);
      known : (c : ℕ) → slice_index l.firsts.items c ≢ 0 → (slice_index l.firsts.items c ≤ l.node) × (slice_index l.initial.ranks.items (slice_index l.firsts.items c - 1) ≡ c + l.base);
    }
