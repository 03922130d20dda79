use Rattle.std.proofs.Common.{◌≡◌, ◌++◌, filter, drop}
use Rattle.build_summaries.specs.Paths.{is_filled}
use Rattle.build_summaries.specs.Views.{texts}
use Rattle.build_summaries.proofs.paths.filled.Given as goal

abbrev pub invariant-loop-piece : goal.invariant-loop-piece
invariant-loop-piece l = filter is_filled (texts l.pieces) ≡ texts l.names.items ++ filter is_filled (texts (drop l.piece-index l.pieces))
