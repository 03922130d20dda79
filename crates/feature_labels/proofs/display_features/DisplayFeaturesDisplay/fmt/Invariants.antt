-- The text written is `, ` and a label, for each label passed after the first.
use Rattle.std.proofs.Common.{flat_map, take, codes, ◌++◌}
use Rattle.std.specs.Fmt.{HasWritten, IsPlainFormatter}
use Rattle.feature_labels.specs.Names.{label_of, label_text}
use Rattle.feature_labels.proofs.display_features.DisplayFeaturesDisplay.fmt.Given as goal

abbrev pub invariant-rest : goal.invariant-rest
invariant-rest g l =
    IsPlainFormatter l.initial.f → HasWritten g.W.Write.write_str_gives l.initial.f (flat_map (λ label. codes ", " ++ label_text (label_of label)) (take l.label-index l.rest)) l.f
