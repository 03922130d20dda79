use Rattle.std.proofs.Common.{◌≡◌, ◌++◌, map, drop}
use Rattle.cargo_workspaces.specs.Views.{texts}
use Rattle.feats_list.specs.platforms.Lists.{failing}
use Rattle.feats_list.specs.platforms.Views.{place_text}
use Rattle.feats_list.proofs.platforms.places.failing.Given as goal

abbrev pub invariant-loop-place : goal.invariant-loop-place
invariant-loop-place g l =
    failing (map (place_text g.P.Platform.holds) l.places) l.text ≡ texts l.names.items ++ failing (map (place_text g.P.Platform.holds) (drop l.place-index l.places)) l.text
