use Rattle.std.proofs.Common.{◌≡◌, ap, length, arith, rules, vec_len}
use Rattle.guppy_packages.proofs.PairLemmas.{zip_long}
use Rattle.guppy_packages.proofs.package_list.PackageList.len.Goals as goal

pub returns : goal.returns
returns c =
    let contents = c.self.inside.contents in
    let count : vec_len contents ≡ length contents.items = search rules in
    omega (arith, c.len.ensures, count, zip_long c.self.inside.ids.keys contents.items c.self.invariant, ap length c.self.view_is)
