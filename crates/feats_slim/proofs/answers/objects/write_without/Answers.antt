use Rattle.std.proofs.Common.{subst, sym}
use Rattle.std.specs.Prelude.{OnOk}
use Rattle.feats_lines.specs.parts.Members.{Appends}
use Rattle.cargo_manifests.specs.EditViews.{without_text}
use Rattle.cargo_manifests.specs.declared.edits.Without.{Without}
use Rattle.feats_slim.specs.answers.Objects.{without_members}
use Rattle.feats_slim.proofs.answers.objects.write_without.Goals as goal

pub returns-in-Defaults : goal.returns-in-Defaults
returns-in-Defaults c =
    subst (λ (w : Without). OnOk c.write_out.result (Appends c.args.writer.now c.write_out.new.writer (without_members (without_text w)))) (sym c.in-Defaults.is) c.write_out.ensures
