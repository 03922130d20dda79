use Rattle.std.proofs.Common.{rules}
use Rattle.feature_labels.specs.Names.{id_of}
use Rattle.guppy_features.proofs.ListedLemmas.{listed}
use Rattle.guppy_features.proofs.listed_filters.FeatureIdFilter.lists.Goals as goal

pub returns : goal.returns
returns g c = rw c.contains.ensures (listed id_of _ (id_of c.args.id) c.args.self.now.ids.keys (λ x. search rules))
