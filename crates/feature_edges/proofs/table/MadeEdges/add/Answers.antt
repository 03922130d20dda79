use Rattle.std.proofs.lemmas.Option.{slice_get_within}
use Rattle.std.proofs.lemmas.Result.{on_ok_weaker}
use Rattle.feature_edges.proofs.AlikeLemmas.{last_edge, noted_made, plain_strong, repeat_added}
use Rattle.feature_edges.proofs.table.MadeEdges.add.Goals as goal

pub returns-then-is_unconditional : goal.returns-then-is_unconditional
returns-then-is_unconditional c =
    let t = c.args.material.numbers.graph.now in
    on_ok_weaker c.add_unconditional.result
    (λ told done h.
    noted_made t done c.args.key c.args.self.now c.add_unconditional.new.self (λ weak. absurd (plain_strong c.args.key (c.is_unconditional.ensures.0 c.if-is_unconditional.true) weak)) (told t c.facts.ensures c.requires.of_tables) h)
    c.add_unconditional.ensures

pub repeat-requires : goal.repeat-requires
repeat-requires c =
    let h = last_edge c.args.material.numbers.graph.now c.facts.ensures c.args.self.now c.in-Some.last.0 c.args.key c.in-Some.last.1 c.requires.of_tables c.requires.made.1.last c.in-Some.is (c.are_alike.ensures c.if-are_alike.true) in
    slice_get_within c.args.self.now.edges c.in-Some.last.1 h.says h.at

pub returns : goal.returns
returns c =
    let t = c.args.material.numbers.graph.now in
    let h = last_edge t c.facts.ensures c.args.self.now c.in-Some.last.0 c.args.key c.in-Some.last.1 c.requires.of_tables c.requires.made.1.last c.in-Some.is (c.are_alike.ensures c.if-are_alike.true) in
    on_ok_weaker c.repeat.result
    (λ told done made. noted_made t done c.args.key c.args.self.now c.repeat.new.self h.noted (repeat_added t c.args.key c.in-Some.last.1 c.args.self.now c.repeat.new.self h (told h.says h.at)) made)
    c.repeat.ensures
