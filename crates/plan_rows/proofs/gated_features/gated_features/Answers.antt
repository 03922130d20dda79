use Rattle.std.proofs.Common.{◌∙◌, ap, Global, map, String, sym, Vec}
use Rattle.std.specs.String.{string_bytes}
use Rattle.cargo_workspaces.specs.Views.{feature_text}
use Rattle.cargo_workspaces.specs.declared.package.Feature.{Feature}
use Rattle.plan_rows.specs.Gates.{gates_of}
use Rattle.plan_rows.proofs.GateLemmas.{same_at}
use Rattle.plan_rows.proofs.gated_features.gated_features.Goals as goal

pub gated_feature-requires : goal.gated_feature-requires
gated_feature-requires c =
    let texts = λ (v : Vec (String Global) Global). map string_bytes v.items in
    let at = same_at texts gates_of feature_text c.args.gates.now c.args.features.now c.loop-ix.ix c.index-gates-ix.result c.index-features-ix.result c.requires c.loop-ix-test.true in
    ap (map string_bytes) c.deref.ensures.value ∙ ap texts c.index-gates-ix.is ∙ at ∙ ap (λ (f : Feature). gates_of (feature_text f)) (sym c.index-features-ix.is)
