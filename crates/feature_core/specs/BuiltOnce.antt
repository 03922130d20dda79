-- A proof that data was built from tables is unique, so a view of a graph can carry it.
use Rattle.std.proofs.Props.{props}
use Rattle.feature_edges.specs.guppy_packages.Tables.{Tables}
use Rattle.feature_core.specs.Built.{Built, IsBuilt}
pub use Rattle.feature_edges.specs.EdgesOnce.{edge_there-prop, pair_there-prop}
use Rattle.feature_edges.specs.EdgesOnce.{pair_list-prop, built-prop}
use Rattle.feature_edges.specs.Warnings.{Warning}

warning-set : IsSet Warning
warning-set = hlevel props

pub is_built-prop : (t : Tables) (b : Built) → IsProp (IsBuilt t b)
is_built-prop t b = hlevel (props, warning-set, pair_list-prop, built-prop)
