use Rattle.std.proofs.Common.{map, subst, sym}
use Rattle.guppy_packages.specs.Tables.{Tables}
use Rattle.guppy_packages.specs.declared.direction.DependencyDirection.TheVariants.{Forward}
use Rattle.digraphs.specs.Bits.{has}
use Rattle.feature_core.specs.Built.{IsBuilt}
use Rattle.plan_whys.specs.StepViews.{reason_text}
use Rattle.plan_whys.proofs.ReasonLists.{node_of_table, reasons_here, reasons_inside, tables_reverse}
use Rattle.plan_whys.proofs.direct_reasons.reasons_at.Goals as goal

pub all_reasons-requires-clause-node : goal.all_reasons-requires-clause-node
all_reasons-requires-clause-node c =
    let b = c.built-built.result.now in
    node_of_table c.args.on.now c.visited-visited.result.now b c.new-back.result c.args.node c.visited-visited.ensures c.built-built.ensures c.new-back.ensures c.requires

pub all_reasons-requires-clause-reverse : goal.all_reasons-requires-clause-reverse
all_reasons-requires-clause-reverse c =
    let b = c.built-built.result.now in
    let built : IsBuilt c.packages.result.now b = subst (λ (t : Tables). IsBuilt t b) (sym c.packages.ensures) c.built-built.ensures in
    tables_reverse b c.new-table.result c.new-back.result c.new-table.ensures c.new-back.ensures (c.content_of_graph.ensures.reverse b)

pub reasons_by_spots-requires : goal.reasons_by_spots-requires
reasons_by_spots-requires c =
    let b = c.built-built.result.now in
    let built : IsBuilt c.packages.result.now b = subst (λ (t : Tables). IsBuilt t b) (sym c.packages.ensures) c.built-built.ensures in
    reasons_inside c.args.on.now c.visited-visited.result.now b c.new-table.result (has c.members.result.now) c.args.node c.in_ok-reasons.reasons.items c.deref.result.now
    c.visited-visited.ensures c.built-built.ensures (c.content_of_graph.ensures.ends b Forward built) c.new-table.ensures c.in_ok-reasons.ensures c.deref.ensures.value

pub returns : goal.returns
returns c =
    reasons_here c.args.on.now c.visited-visited.result.now c.built-built.result.now c.new-table.result c.members.result.now c.args.node c.in_ok-reasons.reasons.items c.deref.result.now (map reason_text c.in_ok-shown.shown.items)
    c.visited-visited.ensures c.built-built.ensures c.new-table.ensures c.members.ensures.members c.in_ok-reasons.ensures c.deref.ensures.value c.in_ok-shown.ensures
