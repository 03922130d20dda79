-- The values that Rust's types contain.
use Rattle.std.specs.Prelude.{map, string_bytes}
use Rattle.cargo_workspaces.specs.Views.{texts}
use Rattle.feats_lines.specs.Views.{shown_text}
use Rattle.feats_diff.specs.texts.Shown.{DifferenceText, TurnedText, come, gone, changed}
use Rattle.feats_diff.specs.declared.texts.shown.Difference.{Difference}
use Rattle.feats_diff.specs.declared.texts.shown.Difference.TheVariants.{Comes, Goes, Changes}
use Rattle.feats_diff.specs.declared.texts.shown.Turned.{Turned}

abbrev pub turned_text : Turned → TurnedText
turned_text t = record { name = t.name.now; why = string_bytes t.why }

abbrev pub difference_text : Difference → DifferenceText
difference_text (Comes new why) = come (shown_text new) (string_bytes why)
difference_text (Goes old) = gone (shown_text old)
difference_text (Changes old new comes goes) = changed (shown_text old) (shown_text new) (map turned_text comes.items) (texts goes.items)
