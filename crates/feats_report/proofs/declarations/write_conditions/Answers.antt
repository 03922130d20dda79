use Rattle.feats_lines.proofs.Tokens.{appended, on_ok}
use Rattle.feats_report.proofs.declarations.write_conditions.Goals as goal

pub returns : goal.returns
returns c = on_ok c.write_optional.result c.write_optional.ensures (λ last.
    appended _ _ _ _ _ c.in_ok-write_kind.ensures (appended _ _ _ _ _ c.in_ok-write_flag.ensures last))
