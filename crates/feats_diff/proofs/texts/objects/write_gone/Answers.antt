use Rattle.feats_diff.proofs.Tokens.{appended, on_ok}
use Rattle.feats_diff.proofs.texts.objects.write_gone.Goals as goal

pub returns : goal.returns
returns c = on_ok c.write_texts.result c.write_texts.ensures (λ last. appended _ _ _ _ _ c.in_ok-write_head.ensures last)
