use Rattle.std.proofs.Common.{rules}
use Rattle.feature_labels.specs.Names.{id_of}
use Rattle.guppy_features.proofs.ListedLemmas.{same_elements}
use Rattle.guppy_features.proofs.listed_filters.feature_id_filter.Goals as goal

pub returns-clause-ids : goal.returns-clause-ids
returns-clause-ids g c = same_elements id_of _ c.in_ok-ids.ids.keys c.args.feature_ids.now c.in_ok-ids.ensures (λ x y. search rules)
