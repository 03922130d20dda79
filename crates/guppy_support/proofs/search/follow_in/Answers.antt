use Rattle.std.proofs.Common.{◌+◌, ◌∙◌, ℕ, refl, sym, arith}
use Rattle.guppy_support.specs.declared.reading.Reading.TheVariants.{Backward}
use Rattle.guppy_support.specs.Views.{starting}
use Rattle.guppy_support.proofs.Followed.{follow_more, follow_all, past_end}
use Rattle.guppy_support.proofs.Places.{starts_at, within_some}
use Rattle.guppy_support.proofs.search.follow_in.Goals as goal

pub find_end-requires-clause-number : goal.find_end-requires-clause-number
find_end-requires-clause-number g c = (starts_at Backward c.args.digraph.now.edges c.args.node c.loop-number.place c.in-Some.number (sym c.in-Some.ensures.number)).within

pub find_end-requires-clause-known : goal.find_end-requires-clause-known
find_end-requires-clause-known g c = c.requires.known c.in-Some.number (starts_at Backward c.args.digraph.now.edges c.args.node c.loop-number.place c.in-Some.number (sym c.in-Some.ensures.number)).within

pub loop-number-smaller : goal.loop-number-smaller
loop-number-smaller g c = omega (arith, within_some (starting Backward c.args.digraph.now.edges c.args.node) c.loop-number.place c.in-Some.number (sym c.in-Some.ensures.number))

pub loop-number-preserved : goal.loop-number-preserved
loop-number-preserved g c =
    let place : ℕ = c.loop-number.place in
    record {
      size = c.in_ok-find_end.ensures.size ∙ c.loop-number.invariant.size;
      finds = follow_more Backward c.args.digraph.now.edges (g.F.EdgeFilter.is_followed c.args.filter.now) c.args.node place (place + 1) c.in-Some.number c.args.found.now c.loop-number.found c.find_end.new.found c.args.waiting.now.items c.loop-number.waiting.items c.find_end.new.waiting.items refl (sym c.in-Some.ensures.number) c.loop-number.invariant.finds c.in_ok-find_end.ensures;
    }

pub returns : goal.returns
returns g c =
    let past = past_end (starting Backward c.args.digraph.now.edges c.args.node) c.loop-number.place (sym c.in_default.ensures.number) in
    follow_all Backward c.args.digraph.now.edges (g.F.EdgeFilter.is_followed c.args.filter.now) c.args.node c.loop-number.place c.args.found.now c.loop-number.found c.args.waiting.now.items c.loop-number.waiting.items past c.loop-number.invariant.finds
