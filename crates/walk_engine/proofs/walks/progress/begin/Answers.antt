use Rattle.std.proofs.Common.{◌<◌, ℕ, List, length, refl, sym, ◌∙◌, ap, subst, arith}
use Rattle.walk_engine.specs.inner.WalkProgress.{Findings, findings, noted, IsListed}
use Rattle.walk_engine.specs.declared.walks.StepReason.TheVariants.{Initial}
use Rattle.walk_engine.proofs.WalkEnds.{BegunBut, begun_none, begun_note, begun_all, next_initial, marked_within}
use Rattle.walk_engine.proofs.walks.progress.begin.Goals as goal

pub loop-node-init : goal.loop-node-init
loop-node-init c =
    record {
      members = c.requires.members;
      listed = c.requires.listed;
      explains = refl;
      begun = subst (λ (xs : List ℕ). BegunBut c.args.initials.now xs (findings c.args.found.now)) (sym (c.into_iter-node-iterator.ensures.into_iter_gives ∙ c.ones-node-items.ensures)) (begun_none c.args.initials.now (findings c.args.found.now) c.requires.blank);
    }

pub returns-in_err-make_room-clause-members : goal.returns-in_err-make_room-clause-members
returns-in_err-make_room-clause-members c = ap (λ (f : Findings). length f.members) c.make_room.ensures.same ∙ c.loop-node.invariant.members

pub returns-in_err-make_room-clause-listed : goal.returns-in_err-make_room-clause-listed
returns-in_err-make_room-clause-listed c =
    let same = c.make_room.ensures.same in
    subst IsListed (sym same) c.loop-node.invariant.listed

pub note-requires-clause-listed : goal.note-requires-clause-listed
note-requires-clause-listed c =
    let same = c.make_room.ensures.same in
    subst IsListed (sym same) c.loop-node.invariant.listed

pub note-requires-clause-node : goal.note-requires-clause-node
note-requires-clause-node c =
    let begun = subst (λ (xs : List ℕ). BegunBut c.args.initials.now xs (findings c.loop-node.found)) c.in-Some.ensures.steps c.loop-node.invariant.begun in
    omega (arith, marked_within c.args.initials.now c.in-Some.node (next_initial c.args.initials.now c.in-Some.node c.next.new.self (findings c.loop-node.found) begun), c.loop-node.invariant.members, ap (λ (f : Findings). length f.members) c.make_room.ensures.same)

pub loop-node-preserved : goal.loop-node-preserved
loop-node-preserved c =
    let same = c.make_room.ensures.same in
    let begun = subst (λ (xs : List ℕ). BegunBut c.args.initials.now xs (findings c.loop-node.found)) c.in-Some.ensures.steps c.loop-node.invariant.begun in
    let inside : c.in-Some.node < length c.loop-node.found.members = omega (arith, marked_within c.args.initials.now c.in-Some.node (next_initial c.args.initials.now c.in-Some.node c.next.new.self (findings c.loop-node.found) begun), c.loop-node.invariant.members) in
    let noted_last = begun_note c.args.initials.now c.in-Some.node c.next.new.self (findings c.loop-node.found) inside begun in
    record {
      members = c.note.ensures.size ∙ (ap (λ (f : Findings). length f.members) c.make_room.ensures.same ∙ c.loop-node.invariant.members);
      listed = c.note.ensures.listed;
      explains = ap (λ (f : Findings). f.explains) (c.note.ensures.noted ∙ ap (λ (f : Findings). noted f c.in-Some.node Initial) same) ∙ c.loop-node.invariant.explains;
      begun = subst (λ (f : Findings). BegunBut c.args.initials.now c.next.new.self f) (sym (c.note.ensures.noted ∙ ap (λ (f : Findings). noted f c.in-Some.node Initial) same)) noted_last;
    }

pub returns-clause-begun : goal.returns-clause-begun
returns-clause-begun c = begun_all c.args.initials.now (findings c.loop-node.found) (subst (λ (xs : List ℕ). BegunBut c.args.initials.now xs (findings c.loop-node.found)) c.in-None.ensures.steps.0 c.loop-node.invariant.begun)
