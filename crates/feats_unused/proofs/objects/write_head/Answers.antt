use Rattle.feats_lines.proofs.Tokens.{appended, on_ok}
use Rattle.feats_unused.proofs.objects.write_head.Goals as goal

pub returns : goal.returns
returns c = on_ok c.write_member-4.result c.write_member-4.ensures (λ last.
    appended _ _ _ _ _ c.in_ok-write_member.ensures (appended _ _ _ _ _ c.in_ok-write_member-2.ensures (appended _ _ _ _ _ c.in_ok-write_member-3.ensures last)))
