use Rattle.std.proofs.Common.{◌≡◌, ◌<◌, ◌+◌, suc, ℕ, List, Some, length, take, refl, sym, ◌∙◌, ap, subst, arith, add-one}
use Rattle.std.specs.Prelude.{slice_get, slice_index_or, ◌==◌, vec_len}
use Rattle.std.proofs.lemmas.Option.{slice_get_read}
use Rattle.digraphs.specs.Bits.{has}
use Rattle.walk_engine.specs.declared.walks.progress.Condition.TheVariants.{Start, Gate}
use Rattle.walk_engine.specs.declared.walks.progress.Found.{Found}
use Rattle.walk_engine.specs.Walks.{Content, Way, EndsAreNodes, starting, releasing, MayAsk}
use Rattle.walk_engine.specs.inner.WalkProgress.{Findings, findings, FollowsAll, FollowsStopped, reads_of}
use Rattle.walk_engine.proofs.WalkEnds.{done_more, stopped_taking, stopped_freeing, reads_more, started_none, take_extends, longer, reads_bound, reads_none}
use Rattle.walk_engine.proofs.WalkLoops.{extends_trans, take-length, on_err}
use Rattle.walk_engine.proofs.WayNumbers.{length_numbers_le}
use Rattle.walk_engine.proofs.walks.progress.walk_members.Goals as goal

sum_up : (start before used mid a after b used' : ℕ) → before ≡ start + used → mid ≡ before + a → after ≡ mid + b → used' ≡ used + a + b → after ≡ start + used'
sum_up start before used mid a after b used' p q r t = omega arith

-- The node that is read is the next of the list.
next_listed : (found : Found) (next len node : ℕ) → next < len → len ≡ vec_len found.order → node ≡ slice_index_or found.order.items next node → slice_get (findings found).order next ≡ Some node
next_listed found next len node h l q = slice_get_read found.order.items (length found.order.items) next node refl (omega (arith, found.order.ok.0)) q

pub members-init : goal.members-init
members-init g c =
    record {
      within = omega arith;
      same = refl;
      read = omega (arith, reads_none (g.S.EdgeSource.content c.args.source.now));
      may = c.requires.may;
      members = c.begin.ensures.members;
      edges = refl;
      listed = c.begin.ensures.listed;
      explains = c.begin.ensures.explains;
      done = started_none (g.S.EdgeSource.content c.args.source.now) (has c.args.initials.now) g.O.Offerer.gives c.args.offerer.now c.args.offerer.now (findings c.begin.new.found) c.args.met.now refl c.in_ok-begin.ensures.begun c.requires.unmet;
    }

pub follow_all-requires-clause-nodes : goal.follow_all-requires-clause-nodes
follow_all-requires-clause-nodes g c = subst EndsAreNodes (sym c.members.invariant.same) c.requires.nodes

pub returns-in_err-follow_all-clause-err : goal.returns-in_err-follow_all-clause-err
returns-in_err-follow_all-clause-err g c =
    let con = g.S.EdgeSource.content c.args.source.now in
    let node : ℕ = c.index-node.result.now in
    let f : Findings = findings c.members.found in
    let here = next_listed c.members.found c.members.next c.len.result c.index-node.result.now c.members-test.true c.len.ensures c.index-node.ensures in
    let stopped = subst (λ (x : Content). FollowsStopped Start x g.O.Offerer.gives node c.members.offerer f c.members.met c.follow_all.new.offerer) c.members.invariant.same c.in_err-follow_all.ensures.err in
    on_err c.from_residual-in_err-follow_all.result (stopped_taking con (has c.args.initials.now) g.O.Offerer.gives c.args.offerer.now c.members.offerer c.follow_all.new.offerer f c.members.met c.members.next node here c.members.invariant.done stopped)

pub follow_all-requires-in-members-clause-nodes : goal.follow_all-requires-in-members-clause-nodes
follow_all-requires-in-members-clause-nodes g c = subst EndsAreNodes (sym (c.follow_all.ensures.same ∙ c.members.invariant.same)) c.requires.nodes

pub follow_all-requires-in-members-clause-few : goal.follow_all-requires-in-members-clause-few
follow_all-requires-in-members-clause-few g c =
    let con = g.S.EdgeSource.content c.args.source.now in
    let node : ℕ = c.index-node.result.now in
    let same2 : g.S.EdgeSource.content c.follow_all.new.source ≡ con = c.follow_all.ensures.same ∙ c.members.invariant.same in
    let read1 : g.S.EdgeSource.reads c.follow_all.new.source ≡ g.S.EdgeSource.reads c.members.source + (length (starting con node) + 1) = subst (λ (x : Content). g.S.EdgeSource.reads c.follow_all.new.source ≡ g.S.EdgeSource.reads c.members.source + (length (starting x node) + 1)) c.members.invariant.same c.in_ok-follow_all.ensures.read in
    let ways : length (g.S.EdgeSource.content c.follow_all.new.source).ways ≡ length con.ways = ap (λ (x : Content). length x.ways) same2 in
    omega (arith, c.members.invariant.read, reads_bound con (findings c.members.found).order c.members.next, length_numbers_le (λ (w : Way). w.start == node) con.ways, c.requires.few, c.requires.long)

pub returns-in_err-follow_all-2-clause-err : goal.returns-in_err-follow_all-2-clause-err
returns-in_err-follow_all-2-clause-err g c =
    let con = g.S.EdgeSource.content c.args.source.now in
    let node : ℕ = c.index-node.result.now in
    let f : Findings = findings c.members.found in
    let f1 : Findings = findings c.follow_all.new.found in
    let here = next_listed c.members.found c.members.next c.len.result c.index-node.result.now c.members-test.true c.len.ensures c.index-node.ensures in
    let same2 : g.S.EdgeSource.content c.follow_all.new.source ≡ con = c.follow_all.ensures.same ∙ c.members.invariant.same in
    let takes = subst (λ (x : Content). FollowsAll Start (starting x node) x g.O.Offerer.gives node c.members.offerer f c.members.met c.follow_all.new.offerer f1 c.follow_all.new.met) c.members.invariant.same c.in_ok-follow_all.ensures.taken in
    let stopped = subst (λ (x : Content). FollowsStopped Gate x g.O.Offerer.gives node c.follow_all.new.offerer f1 c.follow_all.new.met c.follow_all-in-members.new.offerer) same2 c.in_err-follow_all-2.ensures.err in
    on_err c.from_residual-in_err-follow_all-2.result (stopped_freeing con (has c.args.initials.now) g.O.Offerer.gives c.args.offerer.now c.members.offerer c.follow_all.new.offerer c.follow_all-in-members.new.offerer f f1 c.members.met c.follow_all.new.met c.members.next node here c.members.invariant.done takes stopped)

pub members-preserved : goal.members-preserved
members-preserved g c =
    let con = g.S.EdgeSource.content c.args.source.now in
    let node : ℕ = c.index-node.result.now in
    let f : Findings = findings c.members.found in
    let f1 : Findings = findings c.follow_all.new.found in
    let f2 : Findings = findings c.follow_all-in-members.new.found in
    let inside : c.members.next < length f.order = omega (arith, c.members-test.true, c.len.ensures, c.members.found.order.ok.0) in
    let here = next_listed c.members.found c.members.next c.len.result c.index-node.result.now c.members-test.true c.len.ensures c.index-node.ensures in
    let same2 : g.S.EdgeSource.content c.follow_all.new.source ≡ con = c.follow_all.ensures.same ∙ c.members.invariant.same in
    let takes = subst (λ (x : Content). FollowsAll Start (starting x node) x g.O.Offerer.gives node c.members.offerer f c.members.met c.follow_all.new.offerer f1 c.follow_all.new.met) c.members.invariant.same c.in_ok-follow_all.ensures.taken in
    let frees = subst (λ (x : Content). FollowsAll Gate (releasing x node) x g.O.Offerer.gives node c.follow_all.new.offerer f1 c.follow_all.new.met c.follow_all-in-members.new.offerer f2 c.follow_all-in-members.new.met) same2 c.in_ok-follow_all-2.ensures.taken in
    let grown = extends_trans f f1 f2 c.follow_all.ensures.grown c.follow_all-in-members.ensures.grown in
    let read1 : g.S.EdgeSource.reads c.follow_all.new.source ≡ g.S.EdgeSource.reads c.members.source + (length (starting con node) + 1) = subst (λ (x : Content). g.S.EdgeSource.reads c.follow_all.new.source ≡ g.S.EdgeSource.reads c.members.source + (length (starting x node) + 1)) c.members.invariant.same c.in_ok-follow_all.ensures.read in
    let read2 : g.S.EdgeSource.reads c.follow_all-in-members.new.source ≡ g.S.EdgeSource.reads c.follow_all.new.source + (length (releasing con node) + 1) = subst (λ (x : Content). g.S.EdgeSource.reads c.follow_all-in-members.new.source ≡ g.S.EdgeSource.reads c.follow_all.new.source + (length (releasing x node) + 1)) same2 c.in_ok-follow_all-2.ensures.read in
    let listed : take (suc c.members.next) f2.order ≡ take (suc c.members.next) f.order = take_extends f f2 (suc c.members.next) (omega arith) grown in
    let more = reads_more con f.order c.members.next node c.members.invariant.done.core.distinct here in
    let cost : reads_of con (take (suc c.members.next) f2.order) ≡ reads_of con (take c.members.next f.order) + (length (starting con node) + 1) + (length (releasing con node) + 1) = ap (reads_of con) listed ∙ more in
    record {
      within = omega (arith, longer f f2 grown);
      same = c.follow_all-in-members.ensures.same ∙ same2;
      read = rw add-one (sum_up (g.S.EdgeSource.reads c.args.source.now) (g.S.EdgeSource.reads c.members.source) (reads_of con (take c.members.next f.order)) (g.S.EdgeSource.reads c.follow_all.new.source) (length (starting con node) + 1) (g.S.EdgeSource.reads c.follow_all-in-members.new.source) (length (releasing con node) + 1) (reads_of con (take (suc c.members.next) f2.order)) c.members.invariant.read read1 read2 cost);
      may = subst (λ (x : Content). MayAsk g.O.Offerer.can_offer g.O.Offerer.gives x c.follow_all-in-members.new.offerer) same2 c.follow_all-in-members.ensures.may;
      members = c.follow_all-in-members.ensures.members ∙ (c.follow_all.ensures.members ∙ c.members.invariant.members);
      edges = c.follow_all-in-members.ensures.edges ∙ (c.follow_all.ensures.edges ∙ c.members.invariant.edges);
      listed = c.follow_all-in-members.ensures.listed;
      explains = grown.explains ∙ c.members.invariant.explains;
      done = rw add-one (done_more con (has c.args.initials.now) g.O.Offerer.gives c.args.offerer.now c.members.offerer c.follow_all.new.offerer c.follow_all-in-members.new.offerer f f1 f2 c.members.met c.follow_all.new.met c.follow_all-in-members.new.met c.members.next node here c.members.invariant.done takes frees grown);
    }

pub returns-clause-read : goal.returns-clause-read
returns-clause-read g c =
    let order = (findings c.members.found).order in
    let whole : c.members.next ≡ length order = omega (arith, c.members-test.false, c.len.ensures, c.members.invariant.within, c.members.found.order.ok.0) in
    let all : take c.members.next order ≡ order = ap (λ (k : ℕ). take k order) whole ∙ take-length order in
    c.members.invariant.read ∙ ap (λ (xs : List ℕ). g.S.EdgeSource.reads c.args.source.now + reads_of (g.S.EdgeSource.content c.args.source.now) xs) all
