use Rattle.std.proofs.Common.{◌∙◌, sym, arith}
use Rattle.guppy_support.proofs.Followed.{end_found}
use Rattle.guppy_support.proofs.Places.{end_within}
use Rattle.guppy_support.proofs.search.find_end.Goals as goal

pub returns : goal.returns
returns g c =
    let yes = sym c.follows.ensures ∙ c.if-not-follows.false in
    let inside = end_within c.args.reading c.args.digraph.now c.facts.ensures c.args.number c.requires.number in
    end_found c.args.reading c.args.digraph.now.edges (g.F.EdgeFilter.is_followed c.args.filter.now) c.args.number c.args.found.now c.find.new.found c.args.waiting.now.items c.find.new.waiting.items c.ends_of.result.1 yes c.ends_of.ensures.end (omega (arith, c.ends_of.ensures.end, inside, c.requires.size)) c.find.ensures.found c.in_ok-find.ensures.waiting
