-- Sets of texts, without where they lie in memory.
use Rattle.std.specs.Prelude.{ℕ, List, map}
use Rattle.std.specs.Borrow.{Bor}
use Rattle.indexmap.specs.IndexSet.{IndexSet}
use Rattle.guppy_packages.specs.Rows.{Text}

abbrev pub texts_in : {S : Type 0} → IndexSet (Bor (List ℕ)) S → List Text
texts_in set = map (λ t. t.now) set.keys
