use Rattle.std.proofs.Common.{◌≡◌, ◌-◌, length, arith, refl}
use Rattle.std.specs.Prelude.{Ok}
use Rattle.std.proofs.lemmas.Result.{err_from_is_err_and}
use Rattle.json.specs.Value.{value_view}
use Rattle.cargo_json.specs.declared.fault.Place.TheVariants as place
use Rattle.workspace_documents.specs.Packages.{package_with_id}
use Rattle.workspace_documents.specs.Views.{package_view}
use Rattle.workspace_documents.proofs.Entries.{next_by_id, refused_by_id, last_by_id, others_by_id, fewer, package_refused}
use Rattle.workspace_documents.proofs.packages.packages_from.Goals as goal

pub returns-in_err-package : goal.returns-in_err-package
returns-in_err-package c =
    let left : c.len.result ≡ length c.pop.new.self.items = omega (arith, c.len.ensures, c.pop.new.self.ok.0) in
    let so = last_by_id package_with_id place.Package c.len-count.result c.len.result _ _ c.in-Some.object c.in-Some.ensures.items c.objects.invariant.within left _ _ c.objects.invariant.so in
    let p = err_from_is_err_and c.from_residual.result c.from_residual.ensures.1 in
    rw (p.1, p.2) (package_refused _ _ _ _ _ _ so c.in_err-package.ensures)

pub returns-in_err-insert : goal.returns-in_err-insert
returns-in_err-insert c =
    let left : c.len.result ≡ length c.pop.new.self.items = omega (arith, c.len.ensures, c.pop.new.self.ok.0) in
    let so = last_by_id package_with_id place.Package c.len-count.result c.len.result _ _ c.in-Some.object c.in-Some.ensures.items c.objects.invariant.within left _ _ c.objects.invariant.so in
    let p = c.in_ok-package.package in
    let read : package_with_id (c.len-count.result - c.len.result - 1) (value_view c.in-Some.object) ≡ Ok (p.id.now, package_view p) = rw c.in_ok-package.ensures refl in
    let r = err_from_is_err_and c.from_residual-in_err-insert.result c.from_residual-in_err-insert.ensures.1 in
    rw (r.1, r.2) (refused_by_id package_view package_with_id place.Package _ _ _ p.id p _ _ _ read refl so _ c.in_err-insert.ensures.repeated)

pub objects-preserved : goal.objects-preserved
objects-preserved c =
    let left : c.len.result ≡ length c.pop.new.self.items = omega (arith, c.len.ensures, c.pop.new.self.ok.0) in
    let so = last_by_id package_with_id place.Package c.len-count.result c.len.result _ _ c.in-Some.object c.in-Some.ensures.items c.objects.invariant.within left _ _ c.objects.invariant.so in
    let p = c.in_ok-package.package in
    let read : package_with_id (c.len-count.result - c.len.result - 1) (value_view c.in-Some.object) ≡ Ok (p.id.now, package_view p) = rw c.in_ok-package.ensures refl in
    let next = next_by_id package_view package_with_id place.Package _ _ _ p.id p _ _ _ read refl so _ c.in_ok-insert.ensures.inserted.0 c.in_ok-insert.ensures.inserted.1 in
    record {
      within = fewer package_with_id place.Package c.len-count.result c.len.result _ _ c.in-Some.object c.in-Some.ensures.items c.objects.invariant.within left;
      so = others_by_id package_with_id place.Package c.len-count.result c.len.result _ _ c.in-Some.object c.in-Some.ensures.items c.objects.invariant.within left _ _ next;
    }
