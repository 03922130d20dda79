use Rattle.feats_tree.proofs.Tokens.{appended, on_ok}
use Rattle.feats_tree.proofs.trees.objects.write_members.Goals as goal

pub returns : goal.returns
returns c = on_ok c.write_flag.result c.write_flag.ensures (λ last. appended _ _ _ _ _ c.in_ok-write_number.ensures (appended _ _ _ _ _ c.in_ok-write_node.ensures last))
