use Rattle.std.proofs.Common.{◌≡◌, ◌++◌, flat_map, map, drop}
use Rattle.cargo_workspaces.specs.Views.{package_text, texts}
use Rattle.feats_duplicates.specs.Views.{alone_text}
use Rattle.feats_duplicates.specs.DisagreementViews.{disagreement_text}
use Rattle.feats_duplicate_lines.specs.Shown.{alone_of}
use Rattle.feats_duplicate_lines.specs.Views.{shown_text}
use Rattle.feats_duplicate_lines.proofs.alone.push_alone.Given as goal

abbrev pub invariant-loop-alone : goal.invariant-loop-alone
invariant-loop-alone l =
    let f = alone_of (texts l.names) (map package_text l.packages) (map disagreement_text l.disagreements) in
    map shown_text l.initial.shown.items ++ flat_map f (map alone_text l.list) ≡ map shown_text l.shown.items ++ flat_map f (map alone_text (drop l.alone-index l.list))
