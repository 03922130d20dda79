use Rattle.std.proofs.Common.{◌≡◌, ◌+◌, ◌-◌, ◌≤◌, length, take}
use Rattle.digraphs.specs.Bits.{has}
use Rattle.walk_engine.specs.Walks.{MayAsk}
use Rattle.walk_engine.specs.inner.WalkProgress.{findings, IsListed, IsDone, reads_of}
use Rattle.walk_engine.proofs.walks.progress.walk_members.Given as goal

abbrev pub invariant-members : goal.invariant-members
invariant-members g l =
    let c = g.S.EdgeSource.content l.fn.source in
    record {
      within : l.next ≤ length (findings l.found).order;
      same : g.S.EdgeSource.content l.source ≡ c;
      read : g.S.EdgeSource.reads l.source ≡ g.S.EdgeSource.reads l.fn.source + reads_of c (take l.next (findings l.found).order);
      may : MayAsk g.O.Offerer.can_offer g.O.Offerer.gives c l.offerer;
      members : length l.found.members ≡ length l.initials;
      edges : length l.met ≡ length l.fn.met;
      listed : IsListed (findings l.found);
      explains : l.found.explains ≡ l.fn.found.explains;
      done : IsDone c (has l.initials) g.O.Offerer.gives l.fn.offerer (take l.next (findings l.found).order) l.offerer (findings l.found) l.met;
    }

abbrev pub decreases-members : goal.decreases-members
decreases-members g l = length l.initials - l.next
