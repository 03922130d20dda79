use Rattle.std.proofs.Common.{◌≡◌, ◌++◌, map, drop}
use Rattle.cargo_workspaces.specs.Views.{texts}
use Rattle.feats_list.specs.platforms.Lists.{holding}
use Rattle.feats_list.specs.platforms.Views.{place_text}
use Rattle.feats_list.proofs.platforms.places.holding.Given as goal

abbrev pub invariant-loop-place : goal.invariant-loop-place
invariant-loop-place g l =
    holding (map (place_text g.P.Platform.holds) l.places) l.text ≡ texts l.names.items ++ holding (map (place_text g.P.Platform.holds) (drop l.place-index l.places)) l.text
