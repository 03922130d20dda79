use Rattle.std.proofs.Common.{◌≡◌, ℕ, Option, Some, sym, subst, arith}
use Rattle.std.specs.Prelude.{◌↔◌}
use Rattle.guppy_packages.specs.Metadata.{package_table_of}
use Rattle.feature_labels.specs.Names.{label_of}
use Rattle.feature_core.specs.Built.{NodeNamed}
use Rattle.plan_starts.proofs.Places.{named_found, node_found, none_past}
use Rattle.plan_starts.proofs.step_visits.visited.node_of.Goals as goal

pub returns-then-ix-package_count : goal.returns-then-ix-package_count
returns-then-ix-package_count c =
    none_past c.args.packages.now c.args.ix (label_of c.args.label) (λ h. omega (arith, h, c.if-ix-package_count.true, c.package_count.ensures))

pub returns : goal.returns
returns c =
    let t = c.args.packages.now in
    let found : ℕ → Type 0 = λ n. ◌≡◌ {A = Option ℕ} c.node.result (Some n) in
    node_found t c.args.ix (label_of c.args.label) c.node.result
    (named_found t c.args.ix (label_of c.args.label) (package_table_of c.package.result) c.id-id.result.now found
    c.facts.ensures c.package.ensures.package (sym c.id-id.ensures)
    (λ n. subst (λ z. found n ↔ NodeNamed t n z) c.new.ensures (c.node.ensures n)))
