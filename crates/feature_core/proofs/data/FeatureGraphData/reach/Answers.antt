use Rattle.std.proofs.Common.{◌≡◌, ap, subst}
use Rattle.std.specs.Prelude.{◌↔◌, IsTrue}
use Rattle.digraphs.specs.Bits.{has}
use Rattle.feature_core.specs.Built.{built_edges}
use Rattle.feature_edges.specs.Choices.{chosen_pairs}
use Rattle.feature_edges.specs.Pairs.{PairLeads, ReachAlong}
use Rattle.std.proofs.lemmas.Result.{IfOk-weaker}
use Rattle.feature_core.proofs.data.FeatureGraphData.reach.Goals as goal

pub returns-clause-members : goal.returns-clause-members
returns-clause-members c =
    let d = c.self.inside in
    let same : chosen_pairs c.args.which (built_edges d.digraph.edges d.edges) ≡ chosen_pairs c.args.which c.args.self.now.edges = ap (λ b. chosen_pairs c.args.which b.edges) c.self.view_is in
    IfOk-weaker c.reach_chosen.result _ _ (λ set holds n. subst (λ z. IsTrue (has set n) ↔ ReachAlong (PairLeads z c.args.direction) (has c.args.initials.now) n) same (holds n)) c.reach_chosen.ensures.members
