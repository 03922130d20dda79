use Rattle.std.proofs.Common.{◌+◌, ◌-◌, ◌∙◌, ℕ, arith}
use Rattle.guppy_support.specs.declared.reading.Reading.TheVariants.{Forward}
use Rattle.guppy_support.proofs.Followed.{follow_more, follow_all, number_out, count_out}
use Rattle.guppy_support.proofs.search.follow_out.Goals as goal

pub loop-number-preserved : goal.loop-number-preserved
loop-number-preserved g c =
    let es = c.args.digraph.now.edges in
    let k : ℕ = c.loop-number.number in
    let low : ℕ = c.out_edges-numbers.result.start in
    let is = number_out es c.args.node low c.out_edges-numbers.result.end k c.out_edges-numbers.ensures.numbers (omega arith) c.loop-number-test.true in
    record {
      size = c.in_ok-find_end.ensures.size ∙ c.loop-number.invariant.size;
      finds = follow_more Forward es (g.F.EdgeFilter.is_followed c.args.filter.now) c.args.node (k - low) (k + 1 - low) k c.args.found.now c.loop-number.found c.find_end.new.found c.args.waiting.now.items c.loop-number.waiting.items c.find_end.new.waiting.items (omega arith) is c.loop-number.invariant.finds c.in_ok-find_end.ensures;
    }

pub returns : goal.returns
returns g c =
    let es = c.args.digraph.now.edges in
    let low : ℕ = c.out_edges-numbers.result.start in
    let all = count_out es c.args.node low c.out_edges-numbers.result.end c.out_edges-numbers.ensures.numbers in
    follow_all Forward es (g.F.EdgeFilter.is_followed c.args.filter.now) c.args.node (c.loop-number.number - low) c.args.found.now c.loop-number.found c.args.waiting.now.items c.loop-number.waiting.items (omega (arith, all, c.loop-number-test.false)) c.loop-number.invariant.finds
