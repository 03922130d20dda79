use Rattle.std.proofs.Common.{◌+◌, ◌-◌, ℕ, List, length, sym, subst, arith}
use Rattle.std.specs.Prelude.{slice_index_or}
use Rattle.std.specs.BTreeSet.{contains}
use Rattle.std.specs.Ordering.{nat_cmp}
use Rattle.digraphs.specs.Bits.{has}
use Rattle.walk_engine.specs.declared.walks.Step.{Step}
use Rattle.walk_engine.specs.declared.walks.StepReason.TheVariants.{Initial}
use Rattle.walk_checks.specs.Places.{place_of}
use Rattle.walk_checks.specs.inner.Waiting.{IsReading}
use Rattle.walk_checks.proofs.WaitLemmas.{inside_more, none_below, only_first, place_inside, reading_begins, reading_ends, reading_step, tie}
use Rattle.walk_checks.proofs.resting.needed_steps.Goals as goal

pub loop-round-init : goal.loop-round-init
loop-round-init g c =
    let con = g.T.EdgeTable.content c.args.table.now in
    let steps : List Step = c.args.steps.now in
    let only = only_first c.new-waiting.result c.wait_for.new.waiting (place_of c.args.places.now) c.args.node c.new-waiting.ensures.len c.in_ok-wait_for.ensures in
    record {
      inside = λ p t. place_inside con.nodes steps (place_of c.args.places.now) c.args.node p c.requires.places ((only p).0 t);
      reading = λ initials A size ok.
          subst (λ (xs : List Step). IsReading con steps c.args.node (length steps - 0) (contains nat_cmp c.wait_for.new.waiting) xs) (sym c.new-kept.ensures.items)
          (reading_begins con (has initials) A steps (place_of c.args.places.now) c.args.node (length steps - 0) (contains nat_cmp c.wait_for.new.waiting) (tie con initials A steps c.args.places.now c.requires.ends c.requires.places size ok) (omega arith) only);
    }

pub loop-round-preserved : goal.loop-round-preserved
loop-round-preserved g c =
    let con = g.T.EdgeTable.content c.args.table.now in
    let steps : List Step = c.args.steps.now in
    let d : Step = record { node = 0; reason = Initial } in
    let p : ℕ = c.in-Some.place in
    let bound : ℕ = length steps - c.loop-round._round in
    let next : ℕ = length steps - (c.loop-round._round + 1) in
    let W = contains nat_cmp c.loop-round.waiting in
    let V = contains nat_cmp c.take_greatest.new.waiting in
    let U = contains nat_cmp c.wait_for_leaned.new.waiting in
    record {
      inside = inside_more con (slice_index_or steps p d).reason con.nodes steps (place_of c.args.places.now) W V U p c.requires.places c.in-Some.ensures.greatest c.in_ok-wait_for_leaned.ensures c.loop-round.invariant.inside;
      reading = λ initials A size ok.
          subst (λ (xs : List Step). IsReading con steps c.args.node next U xs) (sym c.in_ok-push.ensures.items)
          (reading_step con (has initials) A steps (place_of c.args.places.now) c.args.node bound next p d W V U c.loop-round.kept.items (tie con initials A steps c.args.places.now c.requires.ends c.requires.places size ok) (omega arith) (omega arith) c.in-Some.ensures.greatest c.in_ok-wait_for_leaned.ensures (c.loop-round.invariant.reading initials A size ok));
    }

pub bounds-steps-place : goal.bounds-steps-place
bounds-steps-place g c = c.loop-round.invariant.inside c.in-Some.place c.in-Some.ensures.greatest.held

pub returns-in_default : goal.returns-in_default
returns-in_default g c initials A size ok =
    let d : Step = record { node = 0; reason = Initial } in
    reading_ends (g.T.EdgeTable.content c.args.table.now) c.args.steps.now c.args.node (length c.args.steps.now - c.loop-round._round) d (contains nat_cmp c.loop-round.waiting) c.loop-round.kept.items (omega arith) c.in_default.ensures.none (c.loop-round.invariant.reading initials A size ok)

pub returns : goal.returns
returns g c initials A size ok =
    let con = g.T.EdgeTable.content c.args.table.now in
    let steps : List Step = c.args.steps.now in
    let d : Step = record { node = 0; reason = Initial } in
    let bound : ℕ = length steps - c.loop-round._round in
    let W = contains nat_cmp c.loop-round.waiting in
    let reading = c.loop-round.invariant.reading initials A size ok in
    reading_ends con steps c.args.node bound d W c.loop-round.kept.items (omega arith) (none_below con steps c.args.node bound W c.loop-round.kept.items (omega arith) reading) reading
