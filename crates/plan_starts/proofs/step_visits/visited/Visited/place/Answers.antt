use Rattle.std.proofs.Common.{sym, subst}
use Rattle.feature_core.specs.Nodes.{NodeAt}
use Rattle.feature_labels.specs.Names.{LabelName, id_of, label_of}
use Rattle.plan_starts.specs.step_visits.Visits.{Visit}
use Rattle.plan_starts.proofs.Places.{node_placed}
use Rattle.plan_starts.proofs.step_visits.visited.Visited.place.Goals as goal

pub returns : goal.returns
returns c =
    let packages = c.self.inside.packages in
    let placed = node_placed packages c.self.inside.built.packages c.args.node c.package_of.result (id_of c.id-id.result) c.self.invariant.0.packages c.package_of.ensures c.id-id.ensures in
    subst (λ (v : Visit). NodeAt v.tables c.args.node c.package_of.result (label_of c.label.result)) c.self.view_is
    (subst (λ (l : LabelName). NodeAt packages c.args.node c.package_of.result l) (sym c.label.ensures) placed)
