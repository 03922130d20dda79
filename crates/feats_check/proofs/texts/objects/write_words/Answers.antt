use Rattle.feats_lines.proofs.Tokens.{appended, on_ok}
use Rattle.feats_check.proofs.texts.objects.write_words.Goals as goal

pub returns : goal.returns
returns c = on_ok c.write_optional.result c.write_optional.ensures (λ last. appended _ _ _ _ _ c.in_ok-write_member.ensures (appended _ _ _ _ _ c.in_ok-write_member-2.ensures last))
