use Rattle.std.proofs.Common.{◌∙◌, ap, sym, not}
use Rattle.feature_edges.specs.feature_links.Facts.{has_present_link}
use Rattle.feature_core.proofs.Present.{position_built}
use Rattle.feature_core.proofs.data.FeatureGraphData.first_absent_link.Goals as goal

pub returns : goal.returns
returns c =
    c.first_absent.ensures
    ∙ position_built (λ f. not (has_present_link f)) c.args.self.now.edges c.self.inside.digraph.edges c.self.inside.edges (sym (ap (λ b. b.edges) c.self.view_is)) c.self.invariant.1
