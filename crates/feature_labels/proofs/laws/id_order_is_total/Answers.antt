use Rattle.feature_labels.proofs.OrderLemmas.{id_cmp_total}
use Rattle.feature_labels.proofs.laws.id_order_is_total.Goals as goal

pub returns : goal.returns
returns c = id_cmp_total
