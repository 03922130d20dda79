use Rattle.std.proofs.Common.{◌≡◌, ◌++◌, map}
use Rattle.std.specs.Iterator.Adapters.{zip_first, zip_second}
use Rattle.std.specs.Slice.Iter.{iter_rest}
use Rattle.cargo_workspaces.specs.Views.{texts}
use Rattle.plan_rows.specs.platforms.HeldSpecs.{holds_on}
use Rattle.feats_list.specs.platforms.Views.{place_text}
use Rattle.feats_answers.specs.SpecTexts.{named_places}
use Rattle.feats_answers.proofs.places.push_targets.Given as goal

abbrev pub invariant-loop-name : goal.invariant-loop-name
invariant-loop-name l =
    map (place_text holds_on) l.initial.places.items ++ named_places (texts l.names) (map holds_on l.targets)
    ≡ map (place_text holds_on) l.places.items ++ named_places (texts (iter_rest (zip_first l.name-iterator))) (map holds_on (iter_rest (zip_second l.name-iterator)))
