use Rattle.std.proofs.Common.{◌≡◌, ◌∙◌, ℕ, List, ap, subst}
use Rattle.std.specs.Prelude.{IfOk}
use Rattle.plan_names.specs.Matches.{packages_matching}
use Rattle.feats_policies.specs.checks.Found.{built_among, denied_packages, repeated}
use Rattle.feats_policies.specs.checks.Views.{build_text}
use Rattle.feats_policies.specs.declared.checks.found.Found.{Found}
use Rattle.feats_policies.specs.checks.inner.Returned.{found_text}
use Rattle.feats_policies.proofs.checks.found.duplicates_denied.Goals as goal

pub returns : goal.returns
returns c =
    let b = build_text c.args.build in
    let among : c.deref-2.result.now ≡ built_among b (packages_matching b.packages c.args.word.now) =
    c.deref-2.ensures.value ∙ c.in_ok-among.ensures ∙ ap (built_among b) (c.deref.ensures.value ∙ c.in_ok-numbers.ensures) in
    let list : c.deref-3.result.now ≡ repeated b.packages (built_among b (packages_matching b.packages c.args.word.now)) =
    c.deref-3.ensures.value ∙ c.in_ok-repeated.ensures ∙ ap (repeated b.packages) among in
    subst (λ (ns : List ℕ). IfOk c.denied_packages.result (λ (found : Found). found_text found ≡ denied_packages b ns)) list c.denied_packages.ensures
