use Rattle.std.proofs.Common.{◌∙◌, List, ap, codes, subst}
use Rattle.std.specs.Prelude.{OnOk}
use Rattle.std.specs.Borrow.{Bor}
use Rattle.cargo_workspaces.specs.Views.{texts}
use Rattle.cargo_workspaces.specs.Workspaces.{Text}
use Rattle.feats_lines.specs.parts.Members.{Appends, texts_member}
use Rattle.feats_duplicate_lines.proofs.objects.write_version.Goals as goal

pub returns : goal.returns
returns c =
    let ids = ap (λ (ts : List (Bor Text)). texts ts) c.deref.ensures.value ∙ c.in_ok-ids.ensures in
    subst (λ (ts : List Text). OnOk c.write_texts.result (Appends c.args.writer.now c.write_texts.new.writer (texts_member (codes "dependents") ts))) ids c.write_texts.ensures
