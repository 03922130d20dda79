use Rattle.std.proofs.Common.{◌≡◌, ◌⊎◌, ℕ, ◌+◌, ◌-◌, ◌<◌, ◌≤◌, length, slice_index}
use Rattle.digraphs.proofs.digraph.begins.begin_up_to.Given as goal

abbrev pub invariant-loop-begins : goal.invariant-loop-begins
invariant-loop-begins l =
    record {
      longer : length l.initial.begins.items ≤ length l.begins.items;
      few : (length l.begins.items ≤ l.node + 1) ⊎ (length l.begins.items ≡ length l.initial.begins.items);
      kept : (v : ℕ) → v < length l.initial.begins.items → slice_index l.begins.items v ≡ slice_index l.initial.begins.items v;
      added : (v : ℕ) → length l.initial.begins.items ≤ v → v < length l.begins.items → slice_index l.begins.items v ≡ l.place;
    }

abbrev pub decreases-loop-begins : goal.decreases-loop-begins
decreases-loop-begins l = l.node + 1 - length l.begins.items
