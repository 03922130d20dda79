use Rattle.std.proofs.Common.{◌∙◌, refl}
use Rattle.feature_graph.specs.LinkViews.{link_of}
use Rattle.guppy_features.specs.PlatformViews.{kinds_of, specs_of}
use Rattle.guppy_features.proofs.PlatformLemmas.{by_kinds}
use Rattle.guppy_features.proofs.platform_visitor.PlatformVisitorFeatureLinkVisitor.visit_link.Goals as goal

pub returns : goal.returns
returns c = (refl, c.accepts.ensures ∙ by_kinds (kinds_of c.args.self.now) (specs_of c.args.self.now) (link_of c.args.link))
