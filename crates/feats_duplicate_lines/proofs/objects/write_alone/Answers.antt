use Rattle.feats_lines.proofs.Tokens.{appended, on_ok}
use Rattle.feats_duplicate_lines.proofs.objects.write_alone.Goals as goal

pub returns : goal.returns
returns c = on_ok c.write_place.result c.write_place.ensures (λ last. appended _ _ _ _ _ c.in_ok-write_member.ensures last)
