use Rattle.feats_why_not.proofs.Tokens.{appended, on_ok}
use Rattle.feats_why_not.proofs.objects.write_unbuilt.Goals as goal

pub returns : goal.returns
returns c = on_ok c.write_member.result c.write_member.ensures (λ last. appended _ _ _ _ _ c.in_ok-write_flag.ensures last)
