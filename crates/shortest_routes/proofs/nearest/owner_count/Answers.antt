use Rattle.std.proofs.Common.{◌≡◌, ◌<◌, ◌≤◌, length, get_or, arith, subst}
use Rattle.std.proofs.lemmas.List.Elements.{Contains-get_or}
use Rattle.std.proofs.lemmas.Option.{get_or_from_slice_get, slice_get_within}
use Rattle.std.specs.Prelude.{Contains}
use Rattle.shortest_routes.proofs.nearest.owner_count.Goals as goal

pub returns-in-Some : goal.returns-in-Some
returns-in-Some c = λ node owner e.
    let owners = c.args.owners.now in
    let within : node < length owners = slice_get_within owners node owner e in
    let is : get_or owners node 0 ≡ owner = get_or_from_slice_get owners node owner 0 e in
    let few : owner ≤ c.greatest.result = c.greatest.ensures owner (subst (Contains owners) is (Contains-get_or owners node 0 within)) in
    omega (arith, c.in-Some.ensures)
