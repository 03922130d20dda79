use Rattle.std.proofs.Common.{◌≤◌, ◌++◌, arith, length, map, subst}
use Rattle.std.specs.Prelude.{filter}
use Rattle.std.proofs.lemmas.List.{take_all}
use Rattle.guppy_packages.specs.Stored.{declared}
use Rattle.feature_links.specs.Links.{includes}
use Rattle.feature_links.specs.inner.Collected.{HasKinds}
use Rattle.feature_links.proofs.link.from_declarations.add_all_included.Goals as goal

pub returns-clause-kinds : goal.returns-clause-kinds
returns-clause-kinds c before h =
    let ds = c.args.declarations.now in
    let i = c.loop-declaration.declaration-index in
    let end : length ds ≤ i = omega arith in
    subst (λ z. HasKinds c.loop-declaration.statuses (before ++ filter (λ d. includes c.args.which d) (map declared z))) (take_all i ds end) (c.loop-declaration.invariant.kinds before h)
