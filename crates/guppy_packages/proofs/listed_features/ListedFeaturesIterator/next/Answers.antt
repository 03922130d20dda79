use Rattle.std.proofs.Common.{◌∙◌, drop, sym}
use Rattle.guppy_packages.proofs.Lists.{drop_at}
use Rattle.guppy_packages.proofs.listed_features.ListedFeaturesIterator.next.Goals as goal

pub returns-clause-steps : goal.returns-clause-steps
returns-clause-steps c = sym c.self.view_is ∙ drop_at (drop 1 c.self.inside.texts.now) c.self.inside.returned c.later-name.result.now c.later-name.ensures
