use Rattle.std.proofs.Common.{◌≡◌, Err}
use Rattle.std.proofs.lemmas.Result.{err_from_is_err_and}
use Rattle.guppy_packages.specs.Graph.{dependencies_of, links_of, first_or, faults_by, link_fault, tables_of}
use Rattle.guppy_packages.specs.Stored.{link_tables, package_tables}
use Rattle.guppy_packages.specs.Tables.{AreTables}
use Rattle.guppy_packages.proofs.Passes.{MatchMemory-map, both_read, second_refused, tables_hold}
use Rattle.guppy_packages.proofs.Sound.{tables_sound}
use Rattle.guppy_packages.proofs.package_tables.take_tables.Goals as goal

pub returns-clause-tables : goal.returns-clause-tables
returns-clause-tables g c = both_read (g.S.RowSource.rows c.args.source.now) (package_tables c.in_ok-packages.packages) c.in_ok-packages.ensures.tables (link_tables c.in_ok-links.links.items) c.in_ok-links.ensures.tables

pub returns-clause-sound : goal.returns-clause-sound
returns-clause-sound g c = tables_hold (g.S.RowSource.rows c.args.source.now) (package_tables c.in_ok-packages.packages) c.in_ok-packages.ensures.tables (link_tables c.in_ok-links.links.items) c.in_ok-links.ensures.tables AreTables (tables_sound (g.S.RowSource.rows c.args.source.now))

pub returns-in_err-links-clause-tables : goal.returns-in_err-links-clause-tables
returns-in_err-links-clause-tables g c =
    let all = g.S.RowSource.rows c.args.source.now in
    let packages = package_tables c.in_ok-packages.packages in
    let error = c.in_err-links.field-0.0 in
    let p = err_from_is_err_and c.from_residual-in_err-links.result c.from_residual-in_err-links.ensures.1 in
    rw (p.1, p.2) (MatchMemory-map error.fault (error.row ≡ 0) (first_or (faults_by (link_fault packages) all) (links_of (dependencies_of packages all)) ≡ Err error) (tables_of all ≡ Err error) (second_refused all packages c.in_ok-packages.ensures.tables error (links_of (dependencies_of packages all))) c.in_err-links.ensures.tables)
