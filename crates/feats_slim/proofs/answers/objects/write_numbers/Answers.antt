use Rattle.feats_slim.proofs.Tokens.{appended, on_ok}
use Rattle.feats_slim.proofs.answers.objects.write_numbers.Goals as goal

pub returns : goal.returns
returns c = on_ok c.write_number-2.result c.write_number-2.ensures (λ last. appended _ _ _ _ _ c.in_ok-write_number.ensures last)
