use Rattle.std.proofs.Common.{take, sym, subst}
use Rattle.feature_edges.specs.inner.Keys.{IsSplitRun}
use Rattle.feature_edges.proofs.KeyRuns.{run_split}
use Rattle.feature_edges.proofs.candidate.split_run.Goals as goal

pub returns : goal.returns
returns c =
    let keys = c.args.keys.now in
    let key = c.args.key in
    let count = c.run_length-count.result in
    let run = c.run_length-count.ensures in
    subst (λ z. IsSplitRun keys key z c.split_at.result.1.now) (sym c.split_at.ensures.front)
    (subst (λ z. IsSplitRun keys key (take count keys) z) (sym c.split_at.ensures.back)
    (run_split keys key count c.requires.ordered c.requires.first run.end run.within run.same))
