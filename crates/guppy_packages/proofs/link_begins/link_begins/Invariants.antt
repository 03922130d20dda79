use Rattle.std.proofs.Common.{◌≡◌, Some, ℕ, ◌<◌, ◌≤◌, length, slice_get}
use Rattle.guppy_packages.specs.Stored.{link_tables}
use Rattle.guppy_packages.specs.Tables.{LinkTable}
use Rattle.guppy_packages.specs.inner.Begins.{AreBegun}
use Rattle.guppy_packages.proofs.link_begins.link_begins.Given as goal

abbrev pub invariant-loop-place : goal.invariant-loop-place
invariant-loop-place l =
    record {
      begun : AreBegun (link_tables l.links) l.begins.items;
      before : (k : ℕ) (link : LinkTable) → slice_get (link_tables l.links) k ≡ Some link → k < l.place → link.from < length l.begins.items;
      few : length l.begins.items ≤ l.count;
    }
