use Rattle.std.proofs.Common.{◌∙◌, ◌++◌, List, ap, flat_map, map}
use Rattle.std.specs.Borrow.{Bor}
use Rattle.guppy_packages.specs.Items.{item_of}
use Rattle.cargo_workspaces.specs.Views.{feature_text, texts}
use Rattle.cargo_workspaces.specs.Workspaces.{Text}
use Rattle.feats_unused.specs.Requests.{by_feature, by_item}
use Rattle.feats_unused.specs.Views.{request_text}
use Rattle.feats_unused.proofs.Lists.{joined_more}
use Rattle.feats_unused.proofs.requests.push_each_feature.Goals as goal

pub loop-feature-preserved : goal.loop-feature-preserved
loop-feature-preserved c = λ ds has.
    joined_more feature_text (by_feature c.args.from ds) c.args.features.now c.loop-feature.feature-index c.feature-item.result _ _ _ c.loop-feature-test.true c.feature-item.is (c.loop-feature.invariant ds has)
    (c.in_ok-push_items.ensures ds has
    ∙ ap (λ (items : List (Bor Text)). map request_text c.loop-feature.requests.items ++ flat_map (λ (t : Text). by_item c.args.from ds (item_of t)) (texts items)) c.deref.ensures.value)
