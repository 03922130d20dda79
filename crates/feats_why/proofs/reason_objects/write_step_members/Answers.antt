use Rattle.feats_why.proofs.Tokens.{appended, on_ok}
use Rattle.feats_why.proofs.reason_objects.write_step_members.Goals as goal

pub returns : goal.returns
returns g c = on_ok c.write_reason_members.result c.write_reason_members.ensures (λ last. appended _ _ _ _ _ c.in_ok-write_spot.ensures last)
