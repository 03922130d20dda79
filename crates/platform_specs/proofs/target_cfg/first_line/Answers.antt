use Rattle.platform_specs.proofs.Lines.{first_lines}
use Rattle.platform_specs.proofs.target_cfg.first_line.Goals as goal

pub returns-clause-lines : goal.returns-clause-lines
returns-clause-lines c = first_lines c.args.text.now c.first_piece.result.0.now c.without_return.result.now c.first_piece.result.1 c.first_piece.ensures.pieces c.without_return.ensures
