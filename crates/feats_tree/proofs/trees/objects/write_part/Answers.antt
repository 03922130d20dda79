use Rattle.feats_tree.proofs.Tokens.{appended, on_ok}
use Rattle.feats_tree.proofs.trees.objects.write_part.Goals as goal

pub returns : goal.returns
returns c = on_ok c.write_member.result c.write_member.ensures (λ last.
    appended _ _ _ _ _ c.in_ok-write_optional.ensures (appended _ _ _ _ _ c.in_ok-write_optional-2.ensures last))
