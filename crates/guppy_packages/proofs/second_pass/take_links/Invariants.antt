use Rattle.std.proofs.Common.{◌≡◌, ◌-◌, ◌≤◌, [], length, take}
use Rattle.guppy_packages.specs.Graph.{dependencies_of, faults_by, link_fault, links_of, packages_of}
use Rattle.guppy_packages.specs.Stored.{link_tables, package_tables}
use Rattle.guppy_packages.specs.inner.Noted.{AreNoted}
use Rattle.guppy_packages.specs.inner.RowTexts.{stored_texts}
use Rattle.guppy_packages.proofs.second_pass.take_links.Given as goal

-- the links so far are those of the rows so far, which have no fault
abbrev pub invariant-loop-row : goal.invariant-loop-row
invariant-loop-row g l =
    let rows = g.S.RowSource.rows l.source in
    record {
      few : l.noted.begun ≤ l.row;
      none : faults_by (link_fault (package_tables l.packages)) (take l.row rows) ≡ [];
      counted : l.noted.begun ≡ length (packages_of (take l.row rows));
      at : l.noted.at ≡ length (stored_texts (take l.row rows));
      size : length l.noted.last.items ≡ length (package_tables l.packages);
      noted : AreNoted (l.noted.begun - 1) (link_tables l.links.items) l.noted.last.items l.noted.first;
      tables : link_tables l.links.items ≡ links_of (dependencies_of (package_tables l.packages) (take l.row rows));
    }
