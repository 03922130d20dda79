use Rattle.std.proofs.Common.{◌∙◌}
use Rattle.guppy_packages.specs.Platform.{status_of}
use Rattle.feature_graph.specs.LinkViews.{link_of}
use Rattle.guppy_features.specs.PlatformViews.{specs_of}
use Rattle.guppy_features.proofs.PlatformLemmas.{by_status}
use Rattle.guppy_features.proofs.platform_visitor.PlatformVisitor.meets.Goals as goal

pub returns : goal.returns
returns c = c.holds.ensures ∙ by_status c.args.kind (specs_of c.args.self.now) (link_of c.args.link) (status_of c.status_for_kind.result) c.status_for_kind.ensures
