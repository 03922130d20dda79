use Rattle.std.proofs.Common.{◌≡◌, ◌++◌, drop, flat_map, map, string_bytes}
use Rattle.feats_why.specs.Unbuilt as spec
use Rattle.feats_why.specs.inner.Labelled.{packages_of}
use Rattle.feats_why.proofs.unbuilt.push_all.Given as goal

abbrev pub invariant-loop-unbuilt : goal.invariant-loop-unbuilt
invariant-loop-unbuilt l =
    let lines = flat_map (spec.unbuilt_line (packages_of l.labels) l.labels.sides) in
    string_bytes l.initial.text ++ lines (map spec.unbuilt_text l.list)
    ≡ string_bytes l.text ++ lines (map spec.unbuilt_text (drop l.unbuilt-index l.list))
