use Rattle.std.proofs.Common.{map, take}
use Rattle.std.specs.List.{AllZip}
use Rattle.toml.specs.View.{view}
use Rattle.cargo_manifests.specs.inherited.Manifests.{IsDocument}
use Rattle.cargo_manifests.proofs.inherited.manifests.documents_of.Given as goal

abbrev pub invariant-loop-piece : goal.invariant-loop-piece
invariant-loop-piece l = AllZip IsDocument (map (λ p. p.now) (take l.piece-index l.pieces)) (map view l.documents.items)
