use Rattle.std.proofs.Common.{◌-◌, ◌≤◌, ◌≡◌, Some, arith, slice_get, subst}
use Rattle.guppy_packages.specs.Stored.{link_tables}
use Rattle.guppy_packages.specs.inner.Begins.{IsBegin}
use Rattle.guppy_packages.proofs.NotedLemmas.{noted_later}
use Rattle.guppy_packages.proofs.second_pass.take_link.Goals as goal

pub first_link-noted-requires-clause-ends : goal.first_link-noted-requires-clause-ends
first_link-noted-requires-clause-ends c = λ k l h. (c.in_ok-link_row.ensures.noted.each k l (subst (λ es. slice_get (link_tables es) k ≡ Some l) c.deref.ensures.value h)).0

pub returns-clause-noted : goal.returns-clause-noted
returns-clause-noted c =
    let begin : IsBegin (link_tables c.link_row.new.links.items) (c.count-noted.result - 1) c.first_link-noted.result = rw (c.count-noted.ensures.value, ← c.deref.ensures.value) c.first_link-noted.ensures in
    let kept : c.args.noted.now.begun - 1 ≤ c.count-noted.result - 1 = omega (arith, c.count-noted.ensures.kept) in
    noted_later _ _ (link_tables c.link_row.new.links.items) c.link_row.new.noted.last.items _ _ kept c.in_ok-link_row.ensures.noted begin
