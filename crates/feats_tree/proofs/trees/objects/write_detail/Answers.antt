use Rattle.feats_tree.proofs.Tokens.{appended, on_ok}
use Rattle.feats_tree.proofs.trees.objects.write_detail.Goals as goal

pub returns : goal.returns
returns c = on_ok c.write_at.result c.write_at.ensures (λ last.
    appended _ _ _ _ _ c.in_ok-write_member.ensures (appended _ _ _ _ _ c.in_ok-write_member-2.ensures (appended _ _ _ _ _ c.in_ok-write_member-3.ensures last)))
