use Rattle.std.proofs.Common.{◌≡◌, ◌++◌, drop, map}
use Rattle.std.specs.String.{string_bytes}
use Rattle.plan_whys.specs.StepViews.{spot_text}
use Rattle.feats_why.specs.Labels.{spot_label}
use Rattle.feats_why.specs.inner.Labelled.{packages_of}
use Rattle.feats_why.proofs.labels.label_texts.Given as goal

abbrev pub invariant-loop-spot : goal.invariant-loop-spot
invariant-loop-spot l =
    let label = spot_label (packages_of l.labels) l.labels.sides in
    map label (map spot_text l.spots) ≡ map string_bytes l.texts.items ++ map label (map spot_text (drop l.spot-index l.spots))
