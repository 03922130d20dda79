use Rattle.std.proofs.Common.{◌<◌, length, arith}
use Rattle.feature_links.proofs.StatusLemmas.{inserted_spec}
use Rattle.guppy_features.proofs.graph_platforms.spec_texts.insert_all.Goals as goal

pub loop-spec-preserved : goal.loop-spec-preserved
loop-spec-preserved c before h =
    let below : c.loop-spec.spec-index < length c.args.specs.now = omega arith in
    inserted_spec c.loop-spec.set.keys c.insert.new.self.keys c.text.result before c.args.specs.now c.loop-spec.spec-index c.spec-item.result (c.loop-spec.invariant before h) c.in_ok-insert.ensures.keys c.text.ensures below c.spec-item.is
