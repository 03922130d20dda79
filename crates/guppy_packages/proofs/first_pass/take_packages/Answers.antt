use Rattle.std.proofs.Common.{ℕ, ◌<◌, length, rules}
use Rattle.guppy_packages.specs.Graph.{packages_of}
use Rattle.guppy_packages.specs.Stored.{package_tables}
use Rattle.guppy_packages.proofs.Lists.{drop_at}
use Rattle.guppy_packages.proofs.Passes.{first_answers, first_goes_on}
use Rattle.guppy_packages.specs.inner.RowTexts.{row_texts}
use Rattle.guppy_packages.proofs.RowTextLemmas.{next_at, row_at}
use Rattle.guppy_packages.proofs.first_pass.take_packages.Goals as goal

pub take_row_at-requires : goal.take_row_at-requires
take_row_at-requires g c =
    let all = g.S.RowSource.rows c.args.source.now in
    let i = c.loop-ix.ix in
    record { names = rw c.loop-ix.invariant.at (row_at row_texts all i _ (drop_at all i _ c.row-row.ensures) c.args.names.now.value c.requires) }

pub returns-in-Err-clause-tables : goal.returns-in-Err-clause-tables
returns-in-Err-clause-tables g c =
    let all = g.S.RowSource.rows c.args.source.now in
    let i = c.loop-ix.ix in
    let at = drop_at all i _ c.row-row.ensures in
    let within : i < length all = search rules in
    first_answers all i _ within at c.loop-ix.invariant.none (package_tables c.loop-ix.packages) c.loop-ix.invariant.tables ℕ c.in-Err.fault c.new.result (package_tables c.take_row_at.new.packages) (packages_of all) c.new.ensures.fault c.new.ensures.row c.in-Err.ensures.tables

pub loop-ix-preserved : goal.loop-ix-preserved
loop-ix-preserved g c =
    let all = g.S.RowSource.rows c.args.source.now in
    let i = c.loop-ix.ix in
    let at = drop_at all i _ c.row-row.ensures in
    let within : i < length all = search rules in
    let next = first_goes_on all i _ within at c.loop-ix.invariant.none (package_tables c.loop-ix.packages) c.loop-ix.invariant.tables (package_tables c.take_row_at.new.packages) c.in-Ok.ensures.tables in
    record {
      none = next.0;
      tables = next.1;
      at = next_at row_texts all i _ at within c.loop-ix.at c.in-Ok.next c.loop-ix.invariant.at c.in-Ok.ensures.next;
    }
