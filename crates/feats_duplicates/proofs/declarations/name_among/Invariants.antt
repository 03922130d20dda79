use Rattle.std.proofs.Common.{◌≡◌, map, drop}
use Rattle.cargo_workspaces.specs.Views.{declaration_text}
use Rattle.feats_duplicates.specs.Joined.{name_among}
use Rattle.feats_duplicates.proofs.declarations.name_among.Given as goal

abbrev pub invariant-loop-declaration : goal.invariant-loop-declaration
invariant-loop-declaration l =
    name_among l.«package» l.name (map declaration_text l.declarations) ≡ name_among l.«package» l.name (map declaration_text (drop l.declaration-index l.declarations))
