use Rattle.std.proofs.Common.{◌∙◌, arith}
use Rattle.digraphs.specs.Bits.{has}
use Rattle.walk_engine.specs.inner.WalkProgress.{findings}
use Rattle.walk_engine.proofs.WalkEnds.{finished, finished_explained, reads_members}
use Rattle.walk_engine.proofs.walks.progress.walk_found.Goals as goal

pub returns-clause-walk : goal.returns-clause-walk
returns-clause-walk g c =
    finished (g.S.EdgeSource.content c.args.source.now) (has c.args.initials.now) g.O.Offerer.gives c.args.offerer.now c.walk_members.new.offerer (findings c.walk_members.new.found) c.walk_members.new.met c.in_ok-walk_members.ensures.done

pub returns-clause-explained : goal.returns-clause-explained
returns-clause-explained g c explains =
    finished_explained (g.S.EdgeSource.content c.args.source.now) (has c.args.initials.now) g.O.Offerer.gives c.args.offerer.now c.walk_members.new.offerer (findings c.walk_members.new.found) c.walk_members.new.met (c.walk_members.ensures.explains ∙ explains) c.in_ok-walk_members.ensures.done

pub returns-clause-reads : goal.returns-clause-reads
returns-clause-reads g c =
    let con = g.S.EdgeSource.content c.args.source.now in
    let M = has c.walk_members.new.found.members in
    let order = c.walk_members.new.found.order.items in
    let cost = reads_members con M order c.in_ok-walk_members.ensures.done.core.ordered in
    record {
      least = omega (arith, c.in_ok-walk_members.ensures.read, cost);
      most = omega (arith, c.in_ok-walk_members.ensures.read, cost, c.walk_members.ensures.listed.counted);
    }
