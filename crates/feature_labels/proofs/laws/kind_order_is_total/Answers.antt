use Rattle.feature_labels.proofs.OrderLemmas.{kind_cmp_total}
use Rattle.feature_labels.proofs.laws.kind_order_is_total.Goals as goal

pub returns : goal.returns
returns c = kind_cmp_total
