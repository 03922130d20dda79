use Rattle.std.proofs.Common.{◌≡◌, ◌++◌, drop, map}
use Rattle.std.specs.String.{string_bytes}
use Rattle.feats_why.specs.Lines.{why_lines}
use Rattle.feats_why.specs.Settings.{settings_text}
use Rattle.feats_why.specs.Views.{steps_text}
use Rattle.feats_why.specs.inner.Labelled.{packages_of}
use Rattle.feats_why.proofs.table.each_by.Given as goal

abbrev pub invariant-loop-steps : goal.invariant-loop-steps
invariant-loop-steps g l =
    let lines = why_lines (packages_of l.labels) (settings_text g.P.Platform.holds l.settings) in
    map lines (map steps_text l.lists) ≡ map string_bytes l.texts.items ++ map lines (map steps_text (drop l.steps-index l.lists))
