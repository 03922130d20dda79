use Rattle.std.proofs.Common.{sym, subst, ℕ, ◌≡◌, Option, Some}
use Rattle.std.specs.Prelude.{◌↔◌}
use Rattle.feature_edges.specs.feature_labels.Names.{label_of}
use Rattle.feature_edges.specs.Nodes.{NodeAt}
use Rattle.feature_core.proofs.NameLemmas.{base_found}
use Rattle.feature_core.proofs.data.number_of.Goals as goal

pub returns-in-Base : goal.returns-in-Base
returns-in-Base c n =
    let t = c.args.numbers.graph.now in
    let p = c.args.metadata.package_ix in
    subst (λ l. (◌≡◌ {A = Option ℕ} (Some c.base.result) (Some n)) ↔ NodeAt t n p (label_of l)) (sym c.in-Base.is) (base_found t p c.base.result c.base.ensures.number c.base.ensures.node n)
