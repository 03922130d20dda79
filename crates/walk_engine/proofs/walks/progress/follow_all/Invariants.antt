use Rattle.std.proofs.Common.{◌≡◌, ◌+◌, ◌-◌, ◌≤◌, length}
use Rattle.walk_engine.specs.Walks.{MayAsk}
use Rattle.walk_engine.specs.inner.WalkProgress.{findings, HasRoom, IsListed, Extends, edges_by}
use Rattle.walk_engine.proofs.WalkLoops.{FollowsFirst}
use Rattle.walk_engine.proofs.walks.progress.follow_all.Given as goal

abbrev pub invariant-edges : goal.invariant-edges
invariant-edges g l =
    let c = g.S.EdgeSource.content l.fn.source in
    record {
      within : l.place ≤ length (edges_by l.condition c l.node);
      same : g.S.EdgeSource.content l.source ≡ c;
      read : g.S.EdgeSource.reads l.source ≡ g.S.EdgeSource.reads l.fn.source + l.place;
      may : MayAsk g.O.Offerer.can_offer g.O.Offerer.gives c l.offerer;
      members : length l.found.members ≡ length l.fn.found.members;
      edges : length l.met ≡ length l.fn.met;
      listed : IsListed (findings l.found);
      room : HasRoom 2 l.found;
      grown : Extends (findings l.fn.found) (findings l.found);
      taken : FollowsFirst c g.O.Offerer.gives l.condition l.node l.fn.offerer (findings l.fn.found) l.fn.met l.place l.offerer (findings l.found) l.met;
    }

abbrev pub decreases-edges : goal.decreases-edges
decreases-edges g l = length (edges_by l.condition (g.S.EdgeSource.content l.fn.source) l.node) - l.place
