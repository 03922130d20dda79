use Rattle.std.proofs.Common.{take, get_or, sym, subst, arith}
use Rattle.std.specs.Prelude.{All}
use Rattle.std.proofs.lemmas.List.Elements.{All-nil, All-push}
use Rattle.std.proofs.lemmas.Option.{slice_get-get_or}
use Rattle.feature_edges.specs.declared.candidate.CandidateKind.TheVariants.{FeatureToBase}
use Rattle.feature_edges.specs.inner.Keys.{IsPair}
use Rattle.feature_edges.specs.inner.Parts.{key}
use Rattle.feature_edges.proofs.NodeLemmas.{take-next}
use Rattle.feature_edges.proofs.candidate.run_length.Goals as goal

pub loop-ix-init : goal.loop-ix-init
loop-ix-init c = All-nil (IsPair c.args.key)

pub loop-ix-preserved : goal.loop-ix-preserved
loop-ix-preserved c =
    let keys = c.args.keys.now in
    let ix = c.loop-ix.ix in
    let y = get_or keys ix (key 0 0 FeatureToBase 0 0) in
    subst (All (IsPair c.args.key)) (sym (take-next keys ix y (slice_get-get_or keys ix (key 0 0 FeatureToBase 0 0) (omega arith)))) (All-push (IsPair c.args.key) (take ix keys) y c.loop-ix.invariant (c.is_pair.ensures.0 c.if-not-is_pair.false))
