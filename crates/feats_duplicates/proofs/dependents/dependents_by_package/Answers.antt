use Rattle.std.proofs.Common.{◌≡◌, ◌∙◌, ◌&&◌, Option, ℕ, ap, map, nat_eq, nat_lt, not, refl, slice_index_or}
use Rattle.cargo_plans.specs.plan_units.UnitViews.{unit_text}
use Rattle.feats_duplicates.specs.Dependents.{is_number, leads, package_of}
use Rattle.feats_duplicates.proofs.Lists.{any_more}
use Rattle.feats_duplicates.proofs.dependents.dependents_by_package.Goals as goal

pub loop-link-preserved : goal.loop-link-preserved
loop-link-preserved c = λ p q.
    let units = map unit_text c.args.units.now in
    let link = slice_index_or c.args.links.now c.loop-link.link-index (0, 0) in
    let passes : (is_number q c.package_of.result && is_number p c.package_of-in-loop-link.result) ≡ leads units p q link =
    ap (λ (o : Option ℕ). is_number q o && is_number p c.package_of-in-loop-link.result) c.package_of.ensures
    ∙ ap (λ (o : Option ℕ). is_number q (package_of units link.0) && is_number p o) c.package_of-in-loop-link.ensures in
    any_more (nat_lt q c.args.count) (not (nat_eq q p)) _ (leads units p q) c.args.links.now c.loop-link.link-index link (0, 0) _ _
    c.loop-link-test.true refl passes (c.loop-link.invariant p q) (c.in_ok-note.ensures p q)
