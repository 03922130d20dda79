use Rattle.std.proofs.Common.{◌∙◌, List, ap, map}
use Rattle.cargo_workspaces.specs.Workspaces.{Text}
use Rattle.std.specs.String.{string_bytes}
use Rattle.cargo_workspaces.specs.Views.{package_text}
use Rattle.feats_diff.specs.texts.Lines.{lines_by}
use Rattle.feats_diff.specs.texts.Views.{difference_text}
use Rattle.feats_diff.proofs.Tokens.{ok_with}
use Rattle.feats_lines.specs.Lines.{name_of}
use Rattle.feats_diff.proofs.texts.lines.difference_lines.Goals as goal

pub returns : goal.returns
returns c =
    let shown = map difference_text c.args.shown.now in
    ok_with _ _ c.lines_by.result c.lines_by.ensures (λ text is. is
    ∙ ap (λ (old : List Text). lines_by old (map string_bytes c.deref-2.result.now) shown) (ap (map string_bytes) c.deref.ensures.value ∙ c.in_ok-old_names.ensures)
    ∙ ap (λ (new : List Text). lines_by (map name_of (map package_text c.args.old.now)) new shown) (ap (map string_bytes) c.deref-2.ensures.value ∙ c.in_ok-new_names.ensures))
