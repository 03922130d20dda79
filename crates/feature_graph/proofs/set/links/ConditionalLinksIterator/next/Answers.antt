use Rattle.std.proofs.Common.{◌<◌, ◌∙◌, length, sym}
use Rattle.std.proofs.lemmas.List.Elements.{All-rest}
use Rattle.feature_graph.specs.Views.{built_of, graph_of}
use Rattle.feature_graph.proofs.OrderedLemmas.{no_link, passed_edge}
use Rattle.feature_graph.proofs.set.links.ConditionalLinksIterator.next.Goals as goal

pub invariant_of-self : goal.invariant_of-self
invariant_of-self c = All-rest (λ k. k < length (built_of c.loop-number.self-inside.graph).edges) c.in-Some.number c.next.new.self c.loop-number.self-inside.numbers c.in-Some.ensures.steps c.loop-number.invariant.within

pub loop-number-preserved : goal.loop-number-preserved
loop-number-preserved c =
    let g = graph_of c.loop-number.self-inside.graph in
    let none = no_link c.full_link_at-link.result _ _ c.full_link_at-link.ensures (sym c.is_some.ensures ∙ c.if-is_some.false) in
    record {
      within = All-rest (λ k. k < length (built_of c.loop-number.self-inside.graph).edges) c.in-Some.number c.next.new.self c.loop-number.self-inside.numbers c.in-Some.ensures.steps c.loop-number.invariant.within;
      left = passed_edge g c.in-Some.number c.next.new.self c.loop-number.self-inside.numbers c.in-Some.ensures.steps none ∙ c.loop-number.invariant.left;
    }
