-- Items merged with the gates of those that wait.
use Rattle.std.specs.Prelude.{List, [], ◌∷◌, ◌++◌, Bool, true, false, take, drop}
use Rattle.guppy_packages.specs.Items.{Item, feature_item, optional_item, slash_item, item_of}
use Rattle.cargo_workspaces.specs.Workspaces.{Text}

-- Whether the item waits for an optional dependency.
abbrev pub is_waiting : Item → Bool
is_waiting (feature_item f) = false
is_waiting (optional_item name) = false
is_waiting (slash_item name feature weak) = weak

-- The gates that an item takes, and those that it leaves.
abbrev pub taken : Bool → List Text → List Text
taken true gates = take 1 gates
taken false gates = []

abbrev pub left : Bool → List Text → List Text
left true gates = drop 1 gates
left false gates = gates

-- Each item that waits takes the next gate.
abbrev pub merged : List Text → List Text → List Text
merged [] gates = []
merged (item ∷ items) gates = taken (is_waiting (item_of item)) gates ++ (item ∷ merged items (left (is_waiting (item_of item)) gates))
