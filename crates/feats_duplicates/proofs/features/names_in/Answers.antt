use Rattle.std.proofs.Common.{◌∙◌, ◌++◌, ◌∷◌, [], ap, cond}
use Rattle.std.specs.List.{list_any}
use Rattle.std.specs.Str.{bytes_eq}
use Rattle.cargo_workspaces.specs.Views.{feature_text, texts}
use Rattle.cargo_workspaces.specs.Workspaces.{FeatureText}
use Rattle.feats_duplicates.proofs.Lists.{mapped_more}
use Rattle.feats_duplicates.proofs.features.names_in.Goals as goal

pub loop-feature-preserved : goal.loop-feature-preserved
loop-feature-preserved c = λ some has.
    let same = c.deref-feature-items.ensures.value in
    let within = rw same at c.loop-feature-test.true in
    let at = rw same at c.feature-item.is in
    let f = c.feature-item.result in
    mapped_more feature_text (λ (g : FeatureText). list_any (bytes_eq g.name) some) (λ (g : FeatureText). g.name) c.args.«package».now.features.items c.loop-feature.feature-index f _ _ _
    within at (c.loop-feature.invariant some has)
    (c.in_ok-push_name.ensures ∙ ap (λ b. texts c.loop-feature.names.items ++ cond b (f.name.now ∷ []) []) (c.contains.ensures ∙ has f.name))
