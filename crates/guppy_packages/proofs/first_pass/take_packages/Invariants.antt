use Rattle.std.proofs.Common.{◌≡◌, [], length, take}
use Rattle.guppy_packages.specs.Graph.{faults_by, packages_of, row_fault}
use Rattle.guppy_packages.specs.Stored.{package_tables}
use Rattle.guppy_packages.specs.inner.RowTexts.{stored_texts}
use Rattle.guppy_packages.proofs.first_pass.take_packages.Given as goal

-- the packages so far are those of the rows so far, which have no fault
abbrev pub invariant-loop-ix : goal.invariant-loop-ix
invariant-loop-ix g l =
    let rows = g.S.RowSource.rows l.source in
    record {
      none : faults_by row_fault (take l.ix rows) ≡ [];
      at : l.at ≡ length (stored_texts (take l.ix rows));
      tables : package_tables l.packages ≡ packages_of (take l.ix rows);
    }
