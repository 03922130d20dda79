use Rattle.feats_lines.proofs.Tokens.{appended, on_ok}
use Rattle.feats_unused.proofs.objects.write_dead.Goals as goal

pub returns : goal.returns
returns c = on_ok c.write_member-2.result c.write_member-2.ensures (λ last. appended _ _ _ _ _ c.in_ok-write_member.ensures last)
