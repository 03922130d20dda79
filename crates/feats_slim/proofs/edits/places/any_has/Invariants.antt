use Rattle.std.proofs.Common.{◌≡◌, drop}
use Rattle.std.specs.List.{list_any}
use Rattle.feats_slim.specs.edits.Losses.{has_name}
use Rattle.feats_slim.specs.edits.inner.Groups.{lists_text}
use Rattle.feats_slim.proofs.edits.places.any_has.Given as goal

abbrev pub invariant-loop-features : goal.invariant-loop-features
invariant-loop-features l = list_any (has_name l.name) (lists_text l.places) ≡ list_any (has_name l.name) (lists_text (drop l.features-index l.places))
