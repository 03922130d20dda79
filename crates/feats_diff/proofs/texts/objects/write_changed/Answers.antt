use Rattle.std.proofs.Common.{subst}
use Rattle.cargo_workspaces.specs.Workspaces.{Text}
use Rattle.feats_diff.specs.texts.Objects.{head}
use Rattle.feats_diff.proofs.Tokens.{appended, on_ok}
use Rattle.feats_lines.specs.parts.Members.{Appends}
use Rattle.feats_lines.specs.Views.{shown_text}
use Rattle.feats_diff.proofs.texts.objects.write_changed.Goals as goal

pub returns : goal.returns
returns c =
    let begin = subst (λ (kind : Text). Appends c.args.writer.now c.write_head.new.writer (head kind (shown_text c.args.new.now))) c.kind_of.ensures c.in_ok-write_head.ensures in
    on_ok c.write_features.result c.write_features.ensures (λ last. appended _ _ _ _ _ begin (appended _ _ _ _ _ c.in_ok-write_old.ensures (appended _ _ _ _ _ c.in_ok-write_texts.ensures last)))
