use Rattle.std.proofs.Common.{◌≡◌, ◌∙◌, ◌<◌, ◌-◌, ap, get_or, length, rules, sym, vec_len}
use lib.Seq.{map-set_same}
use Rattle.std.specs.List.{zip}
use Rattle.std.proofs.lemmas.Option.{get_or_from_slice_get}
use Rattle.guppy_packages.specs.Stored.{package_table, package_tables}
use Rattle.guppy_packages.proofs.TakenLemmas.{last_at, last_put}
use Rattle.guppy_packages.proofs.first_pass.end_package.Goals as goal

pub returns : goal.returns
returns c =
    let ids = c.packages.inside.ids.keys in
    let ds = c.packages.inside.contents.items in
    let d = c.in-Some.last.now in
    let new = record d { features = c.shrink_to_fit.new.self; optional_names = c.shrink_to_fit-2.new.self } in
    let n : vec_len c.packages.inside.contents ≡ length ds = search rules in
    let some : 0 < vec_len c.packages.inside.contents = search rules in
    let last = last_at ids ds c.packages.invariant (vec_len c.packages.inside.contents) n some d c.in-Some.ensures.value in
    let es = zip ids ds in
    let same : (last.0, d) ≡ get_or es (length es - 1) (last.0, d) = sym (get_or_from_slice_get es (length es - 1) (last.0, d) (last.0, d) last.1) in
    ap package_tables (last_put ids ds c.packages.invariant (vec_len c.packages.inside.contents) n some d last.0 new last.1)
    ∙ map-set_same package_table es (length es - 1) (last.0, new) (last.0, d) (rw (c.shrink_to_fit.ensures, c.shrink_to_fit-2.ensures) (ap package_table same))
    ∙ ap package_tables c.packages.view_is
