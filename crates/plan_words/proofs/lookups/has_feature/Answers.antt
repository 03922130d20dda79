use Rattle.std.proofs.Common.{◌≡◌, ◌∙◌, of_calls, rules}
use Rattle.std.proofs.lemmas.Fn.{always_returns_same}
use Rattle.cargo_workspaces.specs.Workspaces.{FeatureText, text_cmp}
use Rattle.cargo_workspaces.specs.Views.{feature_text}
use Rattle.cargo_workspaces.specs.declared.package.Feature.{Feature}
use Rattle.plan_words.proofs.Sorted.{search_is}
use Rattle.plan_words.proofs.lookups.has_feature.Goals as goal

-- the closure compares a feature's name with the name, and the slice is the package's features
pub returns : goal.returns
returns c =
    let facts = c.binary_search_by.ensures in
    let same : c.deref.result.now ≡ c.args.package.now.features.items = c.deref.ensures.value in
    let by_name = facts.position (λ (f : Feature). text_cmp f.name.now c.args.name.now) (always_returns_same _ _ _ (λ a r f k. search (rules, of_calls))) in
    c.is_ok.ensures.value
    ∙ search_is feature_text (λ (f : FeatureText). f.name) c.args.package.now.features.items c.args.name.now c.binary_search_by.result c.requires (rw (← same) facts.bound) (rw (← same) by_name)
