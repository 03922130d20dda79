use Rattle.std.proofs.Common.{lit<}
use Rattle.platform_specs.proofs.Lines.{first_pieces, one_part}
use Rattle.platform_specs.proofs.target_cfg.first_piece.Goals as goal

pub returns-in-Some-clause-pieces : goal.returns-in-Some-clause-pieces
returns-in-Some-clause-pieces c =
    let h = c.in-Some.ensures.byte (lit< tt) (λ w o f. f) in
    first_pieces c.args.text.now c.in-Some.line.now c.in-Some.rest.now h.2 h.0 h.1

pub returns-in-None-clause-pieces : goal.returns-in-None-clause-pieces
returns-in-None-clause-pieces c = one_part c.args.text.now (c.in-None.ensures.byte (lit< tt) (λ w o f. f))
