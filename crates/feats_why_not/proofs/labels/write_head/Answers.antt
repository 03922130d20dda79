use Rattle.std.specs.Prelude.{codes}
use Rattle.feats_why_not.proofs.Tokens.{appended, on_ok, text_as}
use Rattle.feats_why_not.proofs.labels.write_head.Goals as goal

pub returns : goal.returns
returns c = on_ok c.write_member.result c.write_member.ensures (λ last.
    appended _ _ _ _ _ c.in_ok-write_part.ensures (text_as _ _ (codes "widening") _ _ c.widening_word.ensures last))
