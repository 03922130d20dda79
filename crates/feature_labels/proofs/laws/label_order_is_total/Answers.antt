use Rattle.feature_labels.specs.Orders.{label_cmp_total}
use Rattle.feature_labels.proofs.laws.label_order_is_total.Goals as goal

pub returns : goal.returns
returns c = label_cmp_total
