use Rattle.std.proofs.Common.{◌∙◌, ap, List, map}
use Rattle.std.specs.String.{string_bytes}
use Rattle.cargo_workspaces.specs.Views.{texts}
use Rattle.cargo_workspaces.specs.Workspaces.{FeatureText, Text}
use Rattle.plan_rows.specs.inner.Merged.{merged}
use Rattle.plan_rows.proofs.GateLemmas.{merged-all}
use Rattle.plan_rows.proofs.gated_features.gated_feature.Goals as goal

pub returns : goal.returns
returns c =
    let f = c.args.feature.now in
    let gates = map string_bytes c.args.gates.now in
    ap {B = FeatureText} (λ (z : List Text). record { name = f.name.now; items = z })
    (c.in_ok-items.ensures ∙ ap (λ z. merged (texts z) gates) c.deref.ensures.value ∙ ap (merged (texts f.items.items)) c.requires ∙ merged-all (texts f.items.items))
