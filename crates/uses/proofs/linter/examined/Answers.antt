use Rattle.std.proofs.Common.{subst}
use Rattle.std.specs.Prelude.{IsFalse, MatchOption, map}
use Rattle.guppy_features.specs.digraphs.Bits.{has}
use Rattle.guppy_features.specs.feature_graph.Explained.{ExplainsMember}
use Rattle.guppy_features.specs.feature_graph.Told.{step_name}
use Rattle.uses.proofs.linter.examined.Goals as goal

pub returns-in-None : goal.returns-in-None
returns-in-None c n at =
    let x = c.args.explained.now in
    subst (λ o. MatchOption o (IsFalse (has x.members n)) (λ why. ExplainsMember x n (map step_name why.items))) c.in-None.is (c.in_ok-why.ensures.told n at)
