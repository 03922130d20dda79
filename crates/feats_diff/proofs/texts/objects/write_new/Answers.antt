use Rattle.feats_diff.proofs.Tokens.{appended, on_ok}
use Rattle.feats_diff.proofs.texts.objects.write_new.Goals as goal

pub returns : goal.returns
returns c = on_ok c.write_member.result c.write_member.ensures (λ last. appended _ _ _ _ _ c.in_ok-write_head.ensures (appended _ _ _ _ _ c.in_ok-write_texts.ensures last))
