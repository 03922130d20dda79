use Rattle.feats_lines.proofs.Tokens.{appended, on_ok}
use Rattle.feats_duplicate_lines.proofs.objects.write_place.Goals as goal

pub returns : goal.returns
returns c = on_ok c.write_texts.result c.write_texts.ensures (λ last. appended _ _ _ _ _ c.in_ok-write_member.ensures last)
