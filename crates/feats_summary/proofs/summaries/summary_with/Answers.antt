use Rattle.std.proofs.Common.{◌≡◌, ◌∙◌, ◌<◌, ℕ, length, map, subst}
use Rattle.std.proofs.lemmas.List.{length-map}
use Rattle.build_summaries.specs.Orders.{IsSummary}
use Rattle.build_summaries.specs.Views as summaries
use Rattle.cargo_plans.specs.plan_units.UnitViews.{unit_text}
use Rattle.digraphs.specs.Bits.{has}
use Rattle.feats_summary.specs.Packages.{packages_by}
use Rattle.feats_summary.specs.Summaries.{is_direct}
use Rattle.feats_summary.specs.inner.Views.{known_text}
use Rattle.feats_summary.proofs.SamePackages.{same_packages}
use Rattle.feats_summary.proofs.summaries.summary_with.Goals as goal
use Rattle.std.specs.Prelude.{Bool, false, true}

pub returns : goal.returns
returns c =
    let known = known_text c.args.known in
    let units = map unit_text c.args.units.now in
    let test : ℕ → Bool = is_direct known.members units c.args.links.now in
    let marks : ℕ → Bool = has c.in_ok-direct.direct in
    let agree : (k : ℕ) → k < length units → marks k ≡ test k =
    λ k below. c.in_ok-direct.ensures.marks k (subst (λ n. k < n) (length-map c.args.units.now unit_text) below) in
    let targets = c.in_ok-targets.ensures ∙ same_packages known marks test false units agree in
    let hosts = c.in_ok-hosts.ensures ∙ same_packages known marks test true units agree in
    let text = c.in_ok-text.text.items in
    subst (λ ts. IsSummary ts (packages_by known test true units) text) targets
    (subst (λ hs. IsSummary (map summaries.package_text c.in_ok-targets.targets.items) hs text) hosts c.in_ok-text.ensures)
