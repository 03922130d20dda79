use Rattle.feats_slim.proofs.Tokens.{appended, on_ok}
use Rattle.feats_slim.proofs.answers.objects.write_members.Goals as goal

pub returns : goal.returns
returns c = on_ok c.write_numbers.result c.write_numbers.ensures (λ last.
    appended _ _ _ _ _ c.in_ok-write_place.ensures (appended _ _ _ _ _ c.in_ok-write_without.ensures last))
