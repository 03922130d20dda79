use Rattle.std.proofs.Common.{◌≡◌, ◌<◌, length, map, refl, rules, sym, vec_len}
use Rattle.std.specs.List.{zip}
use Rattle.std.specs.String.{string_bytes}
use Rattle.guppy_packages.proofs.TakenLemmas.{last_at, last_put, name_noted, not_noted}
use Rattle.guppy_packages.proofs.first_pass.push_dep_row.Goals as goal

pub returns-then-optional : goal.returns-then-optional
returns-then-optional c =
    let ids = c.packages.inside.ids.keys in
    let ds = c.packages.inside.contents.items in
    let d = c.in-Some.current.now in
    let new = record d { optional_names = c.push_name.new.names } in
    let n : vec_len c.packages.inside.contents ≡ length ds = search rules in
    let some : 0 < vec_len c.packages.inside.contents = search rules in
    let last = last_at ids ds c.packages.invariant (vec_len c.packages.inside.contents) n some d c.in-Some.ensures.value in
    rw (last_put ids ds c.packages.invariant (vec_len c.packages.inside.contents) n some d last.0 new last.1, sym c.packages.view_is)
    (name_noted (zip ids ds) (last.0, d) (last.0, new) c.args.name.now (map string_bytes c.push_name.new.names) c.args.optional c.push_name.result last.1 c.if-optional.true refl c.push_name.ensures)

pub returns : goal.returns
returns c =
    let ids = c.packages.inside.ids.keys in
    let ds = c.packages.inside.contents.items in
    let d = c.in-Some.current.now in
    let n : vec_len c.packages.inside.contents ≡ length ds = search rules in
    let some : 0 < vec_len c.packages.inside.contents = search rules in
    let last = last_at ids ds c.packages.invariant (vec_len c.packages.inside.contents) n some d c.in-Some.ensures.value in
    rw (last_put ids ds c.packages.invariant (vec_len c.packages.inside.contents) n some d last.0 d last.1, sym c.packages.view_is)
    (not_noted (zip ids ds) (last.0, d) c.args.name.now c.args.optional last.1 c.if-optional.false)
