-- An edge source that scans a list, for tests.
use Rattle.std.specs.Prelude.{ℕ, ◌<◌, List, All}
use Rattle.walk_engine.specs.declared.walks.Ask.{Ask}
use Rattle.walk_engine.specs.Walks.{Way}

-- A way as a tuple: its start, far end, ask and gate.
abbrev pub ListedWay : Type 0
ListedWay = ℕ × ℕ × Ask × ℕ

-- The way that a tuple describes.
abbrev pub way_of : ListedWay → Way
way_of w = record { start = w.0; far = w.1; ask = w.2; gate = w.3 }

-- The start, far end and gate of each way are below `nodes`.
abbrev pub AreWithin : ℕ → List ListedWay → Type 0
AreWithin nodes ways = All (λ w. (w.0 < nodes) × (w.1 < nodes) × (w.3 < nodes)) ways
