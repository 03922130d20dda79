use Rattle.std.proofs.lemmas.Result.{err_from_is_err_and}
use Rattle.cargo_rows.proofs.Whole.{resolved_refused, rows_are, if_warnings}
use Rattle.cargo_rows.proofs.metadata.rows_of_document.Goals as goal

pub returns-in_err-resolved-clause-rows : goal.returns-in_err-resolved-clause-rows
returns-in_err-resolved-clause-rows c =
    let p = err_from_is_err_and c.from_residual-in_err-resolved.result c.from_residual-in_err-resolved.ensures.1 in
    rw (p.1, p.2) (resolved_refused _ _ _ c.in_ok-listed.ensures _ c.in_ok-packages.ensures _ c.in_err-resolved.ensures)

pub returns-clause-rows : goal.returns-clause-rows
returns-clause-rows c = rw (rows_are _ _ _ c.in_ok-listed.ensures _ c.in_ok-packages.ensures _ c.in_ok-resolved.ensures) c.rows_over.ensures.rows

pub returns-clause-warnings : goal.returns-clause-warnings
returns-clause-warnings c = if_warnings _ _ _ c.in_ok-listed.ensures _ c.in_ok-packages.ensures _ c.in_ok-resolved.ensures _ c.rows_over.ensures.warnings
