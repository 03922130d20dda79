use Rattle.std.proofs.Common.{◌≡◌, ◌++◌, ◌∙◌, codes, sym, ap, arith, flat_map, map, take}
use Rattle.std.proofs.lemmas.Grind.{put_two}
use Rattle.std.proofs.lemmas.List.{take_all}
use Rattle.std.proofs.lemmas.List.Folds.{flat_map-map}
use Rattle.feature_labels.specs.Lists.{joined, labels_shown}
use Rattle.feature_labels.specs.Names.{label_of, label_text}
use Rattle.feature_labels.proofs.display_features.DisplayFeaturesDisplay.fmt.Goals as goal

pub returns-clause-writes : goal.returns-clause-writes
returns-clause-writes g c =
    let rest = flat_map-map (λ label. codes ", " ++ label_text label) label_of c.in-Some.rest.now in
    let whole : joined (labels_shown c.args.self.now) ≡ label_text (label_of c.in-Some.first.now) ++ flat_map (λ label. codes ", " ++ label_text (label_of label)) c.in-Some.rest.now =
    ap (λ labels. joined (map label_of labels)) c.in-Some.ensures.cases.0 ∙ ap (λ texts. label_text (label_of c.in-Some.first.now) ++ texts) rest in
    let all : take c.rest.label-index c.in-Some.rest.now ≡ c.in-Some.rest.now = take_all c.rest.label-index c.in-Some.rest.now (omega arith) in
    λ plain yes.
    let started = c.in_ok-write.ensures.writes plain yes in
    put_two _ _ _ _ _ _ _ started (c.rest.invariant started.plain) (rw all (sym whole))
