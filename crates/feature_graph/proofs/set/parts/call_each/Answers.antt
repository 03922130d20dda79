use Rattle.std.proofs.Common.{◌<◌, length, arith, refl, subst}
use Rattle.std.specs.Prelude.{All}
use Rattle.std.proofs.lemmas.List.Elements.{All-head, All-rest}
use Rattle.feature_core.specs.Nodes.{nodes}
use Rattle.feature_graph.specs.Views.{tables_of_graph}
use Rattle.feature_graph.specs.inner.Sorting.{IsPut}
use Rattle.feature_graph.proofs.PartLemmas.{called_none, called_more, may_call, may_rest}
use Rattle.feature_graph.proofs.set.parts.call_each.Goals as goal

pub loop-node-init : goal.loop-node-init
loop-node-init g c = record {
  callable = c.requires.callable;
  within = c.requires.within;
  called = called_none (goal.F-step g) g.A.Answer.first g.A.Answer.second (tables_of_graph c.args.graph) c.args.numbers c.args.f.now c.args.one.now c.args.other.now c.requires.one c.requires.other;
}

pub call-answer-requires : goal.call-answer-requires
call-answer-requires g c κs = (
  (refl, tt),
  may_call (goal.F-pre g) (goal.F-step g) (tables_of_graph c.args.graph) c.loop-node.numbers c.next.new.self c.in-Some.node c.loop-node.f c.loop-node.invariant.callable c.in-Some.ensures.steps c.feature_at.result c.feature_at.ensures.tables c.feature_at.ensures.name,
)

pub put-requires-in-Some : goal.put-requires-in-Some
put-requires-in-Some g c =
    let t = tables_of_graph c.args.graph in
    let all = subst (All (λ n. n < length (nodes t))) c.in-Some.ensures.steps c.loop-node.invariant.within in
    let below = All-head (λ n. n < length (nodes t)) c.in-Some.node c.next.new.self all in
    omega (arith, below, c.loop-node.invariant.called.other_filled.long)

pub loop-node-preserved : goal.loop-node-preserved
loop-node-preserved g c =
    let t = tables_of_graph c.args.graph in
    record {
      callable = may_rest (goal.F-pre g) (goal.F-step g) t c.loop-node.numbers c.next.new.self c.in-Some.node c.loop-node.f c.loop-node.invariant.callable c.in-Some.ensures.steps c.call-answer.result c.call-answer.new.f
          (record { feature = c.feature_at.result; of_graph = c.feature_at.ensures.tables; named = c.feature_at.ensures.name; call_step = c.call-answer.ensures });
      within = All-rest (λ n. n < length (nodes t)) c.in-Some.node c.next.new.self c.loop-node.numbers c.in-Some.ensures.steps c.loop-node.invariant.within;
      called = called_more (goal.F-step g) g.A.Answer.first g.A.Answer.second t c.args.numbers c.args.f.now c.loop-node.numbers c.next.new.self c.in-Some.node c.loop-node.f c.call-answer.new.f
          c.loop-node.one c.loop-node.other c.put.new.members c.put-in-Some.new.members c.feature_at.result c.call-answer.result
          c.loop-node.invariant.called c.in-Some.ensures.steps c.feature_at.ensures.tables c.feature_at.ensures.name c.call-answer.ensures
          (subst (λ say. IsPut say c.in-Some.node c.loop-node.one c.put.new.members) c.is_first.ensures c.put.ensures)
          (subst (λ say. IsPut say c.in-Some.node c.loop-node.other c.put-in-Some.new.members) c.is_second.ensures c.put-in-Some.ensures);
    }
