use Rattle.std.proofs.Common.{◌≡◌, ◌++◌, map, filter, drop}
use Rattle.feats_slim.specs.edits.Slims.{makes_smaller}
use Rattle.feats_slim.specs.edits.SlimViews.{slim_text}
use Rattle.feats_slim.proofs.edits.slims.smaller.Given as goal

abbrev pub invariant-loop-slim : goal.invariant-loop-slim
invariant-loop-slim l =
    filter makes_smaller (map slim_text l.tried) ≡ map slim_text l.slims.items ++ filter makes_smaller (map slim_text (drop l.slim-index l.tried))
