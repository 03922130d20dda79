use Rattle.std.proofs.Common.{Option, subst}
use Rattle.std.specs.Prelude.{codes}
use Rattle.cargo_workspaces.specs.Workspaces.{Text}
use Rattle.feats_lines.specs.parts.Members.{Appends, optional_member}
use Rattle.feats_lines.proofs.Tokens.{appended, on_ok}
use Rattle.feats_list.proofs.features.objects.write_listed.Goals as goal

pub returns : goal.returns
returns c =
    let feature = subst (λ (name : Option Text). Appends c.args.writer.now c.write_optional.new.writer (optional_member (codes "feature") name)) c.feature_name.ensures c.in_ok-write_optional.ensures in
    let dependency = subst (λ (name : Option Text). Appends c.write_optional.new.writer c.write_optional-2.new.writer (optional_member (codes "dependency") name)) c.dependency_name.ensures c.in_ok-write_optional-2.ensures in
    on_ok c.write_texts.result c.write_texts.ensures (λ last.
    appended _ _ _ _ _ feature (appended _ _ _ _ _ dependency (appended _ _ _ _ _ c.in_ok-write_sides.ensures last)))
