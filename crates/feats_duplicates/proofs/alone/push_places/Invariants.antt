use Rattle.std.proofs.Common.{◌≡◌, ◌++◌, flat_map, map, drop}
use Rattle.feats_duplicates.specs.Alone.{alone_at}
use Rattle.feats_duplicates.specs.Views.{alone_text, member_unit_text}
use Rattle.feats_duplicates.proofs.alone.push_places.Given as goal

abbrev pub invariant-loop-place : goal.invariant-loop-place
invariant-loop-place l =
    let f = alone_at l.«package» (map member_unit_text l.rows) in
    map alone_text l.initial.list.items ++ flat_map f l.places ≡ map alone_text l.list.items ++ flat_map f (drop l.place-index l.places)
