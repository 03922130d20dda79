use Rattle.std.proofs.Common.{◌≡◌, ◌↔◌, ◌∙◌, IsTrue, map, ap}
use Rattle.std.specs.List.{Contains}
use Rattle.feature_labels.specs.Lists.{Ascends}
use Rattle.feature_labels.specs.Names.{label_of}
use Rattle.feature_labels.proofs.Searched.{found_label}
use Rattle.feature_labels.proofs.feature_list.FeatureList.contains.Goals as goal

pub returns : goal.returns
returns c =
    let names : map label_of c.deref.result.now ≡ c.args.self.now.labels = ap (map label_of) c.deref.ensures.value ∙ ap (λ list. list.labels) c.self.view_is in
    let rises : Ascends (map label_of c.deref.result.now) = rw c.deref.ensures.value c.self.invariant in
    let found = found_label c.deref.result.now c.args.label c.binary_search.result rises c.binary_search.ensures.bound c.binary_search.ensures.position in
    let answer : IsTrue c.is_ok.result ↔ Contains c.args.self.now.labels (label_of c.args.label) = rw (c.is_ok.ensures.value, ← names) found in
    answer
