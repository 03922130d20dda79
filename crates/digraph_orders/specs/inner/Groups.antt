-- The components of a digraph by rank.
use Rattle.std.specs.Prelude.{◌≡◌, ◌≢◌, ℕ, ◌<◌, ◌≤◌, true, false, List, Bool, length, slice_index}
use Rattle.digraphs.specs.Bits.{has}
use Rattle.digraphs.specs.PackedRows.{IsPacked}
use Rattle.digraphs.specs.Rows.{places}
use Rattle.digraph_orders.specs.declared.order.groups.Groups.{Groups}

-- The set has each of the first `k` nodes whose rank is another node, and that node.
abbrev pub HaveOthers : List ℕ → ℕ → List Bool → Type 0
HaveOthers ranks k set = (v : ℕ) → v < k → slice_index ranks v ≢ v → (has set v ≡ true) × (has set (slice_index ranks v) ≡ true)

-- Node `v` is its rank, and the only node of it.
pub record IsAlone (ranks : List ℕ) (v : ℕ) : Type 0 where
  pub rank : slice_index ranks v ≡ v
  pub few : length (places v ranks) ≤ 1

-- The nodes of each component of a rank below `n`, and the nodes of the components of several.
pub record AreGroups (n : ℕ) (ranks : List ℕ) (groups : Groups) : Type 0 where
  pub long : length ranks ≡ n
  pub packed : IsPacked n ranks groups.rows.begins.items groups.rows.numbers.items
  pub several_long : length groups.several ≡ n
  pub alone : (v : ℕ) → v < n → has groups.several v ≡ false → IsAlone ranks v
