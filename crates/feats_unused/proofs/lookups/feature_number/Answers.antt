use Rattle.std.proofs.Common.{◌≡◌, Some, ap, of_calls, rules}
use Rattle.std.proofs.lemmas.Fn.{always_returns_same}
use Rattle.cargo_workspaces.specs.Views.{feature_text, package_text}
use Rattle.cargo_workspaces.specs.Workspaces.{text_cmp}
use Rattle.cargo_workspaces.specs.declared.package.Feature.{Feature}
use Rattle.feats_unused.proofs.Sorted.{found_name, found_place, not_found}
use Rattle.feats_unused.proofs.lookups.feature_number.Goals as goal

-- the closure compares a feature's name with the name, and the slice is the package's features
pub returns-in-Ok-clause-found : goal.returns-in-Ok-clause-found
returns-in-Ok-clause-found c =
    let same : c.deref.result.now ≡ c.args.package.now.features.items = c.deref.ensures.value in
    let by_name = c.in-Ok.ensures.position (λ (f : Feature). text_cmp f.name.now c.args.name.now) (always_returns_same _ _ _ (λ a r f k. search (rules, of_calls))) in
    found_name feature_text c.args.package.now.features.items c.args.name.now c.in-Ok.number (rw (← same) c.in-Ok.ensures.bound) (rw (← same) by_name)

pub returns-in-Ok-clause-all : goal.returns-in-Ok-clause-all
returns-in-Ok-clause-all c = λ k f at is.
    let same : c.deref.result.now ≡ c.args.package.now.features.items = c.deref.ensures.value in
    let by_name = c.in-Ok.ensures.position (λ (f : Feature). text_cmp f.name.now c.args.name.now) (always_returns_same _ _ _ (λ a r f k. search (rules, of_calls))) in
    let found = found_name feature_text c.args.package.now.features.items c.args.name.now c.in-Ok.number (rw (← same) c.in-Ok.ensures.bound) (rw (← same) by_name) in
    ap Some (found_place (package_text c.args.package.now).features c.in-Ok.number k found.0 f c.args.name.now c.requires found.1 found.2 at is)

pub returns-in-Err-clause-all : goal.returns-in-Err-clause-all
returns-in-Err-clause-all c = λ k f at is.
    let same : c.deref.result.now ≡ c.args.package.now.features.items = c.deref.ensures.value in
    let by_name = c.in-Err.ensures.position (λ (f : Feature). text_cmp f.name.now c.args.name.now) (always_returns_same _ _ _ (λ a r f k. search (rules, of_calls))) in
    absurd (not_found feature_text c.args.package.now.features.items c.requires c.args.name.now c.in-Err.field-0 (rw (← same) by_name) k f at is)
