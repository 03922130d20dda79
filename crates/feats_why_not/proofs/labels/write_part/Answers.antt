use Rattle.std.specs.Prelude.{codes}
use Rattle.feats_why_not.proofs.Tokens.{appended, on_ok, optional_as, text_as}
use Rattle.feats_why_not.proofs.labels.write_part.Goals as goal

pub returns : goal.returns
returns c = on_ok c.write_optional-2.result c.write_optional-2.ensures (λ last.
    appended _ _ _ _ _ (text_as _ _ (codes "package") _ _ c.id_at.ensures c.in_ok-write_member.ensures)
    (appended _ _ _ _ _ (optional_as _ _ (codes "feature") _ _ c.feature_name.ensures c.in_ok-write_optional.ensures) (optional_as _ _ (codes "dependency") _ _ c.dependency_name.ensures last)))
