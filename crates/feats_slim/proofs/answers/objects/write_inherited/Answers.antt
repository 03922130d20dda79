use Rattle.feats_slim.proofs.Tokens.{appended, on_ok}
use Rattle.feats_slim.proofs.answers.objects.write_inherited.Goals as goal

pub returns : goal.returns
returns c = on_ok c.write_optional-3.result c.write_optional-3.ensures (λ last.
    appended _ _ _ _ _ c.in_ok-write_optional.ensures (appended _ _ _ _ _ c.in_ok-write_member.ensures (appended _ _ _ _ _ c.in_ok-write_optional-2.ensures last)))
