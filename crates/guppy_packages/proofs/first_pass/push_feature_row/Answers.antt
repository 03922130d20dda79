use Rattle.std.proofs.Common.{◌≡◌, ◌<◌, length, rules, sym, vec_len}
use Rattle.std.specs.List.{zip}
use Rattle.guppy_packages.specs.Stored.{package_table}
use Rattle.guppy_packages.proofs.TakenLemmas.{last_at, last_changed, last_put, Takes-map}
use Rattle.guppy_packages.proofs.first_pass.push_feature_row.Goals as goal

pub returns : goal.returns
returns c =
    let ids = c.packages.inside.ids.keys in
    let ds = c.packages.inside.contents.items in
    let d = c.in-Some.current.now in
    let new = record d { features = c.push_feature.new.features } in
    let n : vec_len c.packages.inside.contents ≡ length ds = search rules in
    let some : 0 < vec_len c.packages.inside.contents = search rules in
    let last = last_at ids ds c.packages.invariant (vec_len c.packages.inside.contents) n some d c.in-Some.ensures.value in
    rw (last_put ids ds c.packages.invariant (vec_len c.packages.inside.contents) n some d last.0 new last.1, sym c.packages.view_is)
    (last_changed (zip ids ds) (last.0, d) (last.0, new) _ c.push_feature.result last.1 (Takes-map (λ fs. record (package_table (last.0, d)) { features = fs }) _ c.push_feature.result _ c.push_feature.ensures))
