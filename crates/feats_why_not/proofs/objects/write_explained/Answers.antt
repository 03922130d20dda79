use Rattle.feats_why_not.proofs.Tokens.{appended, on_ok}
use Rattle.feats_why_not.proofs.objects.write_explained.Goals as goal

pub returns : goal.returns
returns c = on_ok c.write_typed.result c.write_typed.ensures (λ last. appended _ _ _ _ _ c.in_ok-write_steps_on.ensures last)
