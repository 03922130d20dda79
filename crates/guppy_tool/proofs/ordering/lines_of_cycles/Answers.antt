use Rattle.std.proofs.Common.{◌≡◌, ◌++◌, ◌∙◌, [], Some, Vec, Global, ap, map, subst}
use Rattle.std.specs.String.{string_bytes}
use Rattle.feature_labels.specs.Names.{id_of}
use Rattle.feature_labels.specs.declared.feature_id.FeatureId.{FeatureId}
use Rattle.feature_graph.specs.Ordered.{AtOrder}
use Rattle.feature_graph.specs.Results.{GivesOrEnds}
use Rattle.feature_graph.specs.Tied.{cycle_names, cycles_of}
use Rattle.feature_graph.specs.Values.{Graph}
use Rattle.guppy_tool.specs.Answers.{before_group, groups, listing}
use Rattle.guppy_tool.proofs.OrderingLemmas.{groups_after, groups_begin, groups_next, groups_end}
use Rattle.guppy_tool.proofs.ordering.lines_of_cycles.Goals as goal

pub loop-cycle-init : goal.loop-cycle-init
loop-cycle-init c =
    let at = c.all_cycles-cycle-items.ensures in
    let all = cycle_names (cycles_of c.cycles.result) at.0 in
    subst (λ (g : Graph). AtOrder g (λ o. string_bytes c.new-text.result ++ groups_after [] c.into_iter-cycle-iterator.result ≡ groups (cycle_names g o))) c.cycles.ensures (
      at.0,
      at.1,
      ap (λ z. z ++ groups_after [] c.into_iter-cycle-iterator.result) c.new-text.ensures.bytes
          ∙ ap (groups_after []) (c.into_iter-cycle-iterator.ensures.into_iter_gives ∙ at.2)
          ∙ groups_begin all,
    )

pub loop-cycle-preserved : goal.loop-cycle-preserved
loop-cycle-preserved c =
    let step = subst (λ z. GivesOrEnds (λ (ids : Vec FeatureId Global) names. map id_of ids.items ≡ names) (λ rest. rest) c.loop-cycle.cycle-iterator (Some z) c.next.new.self) c.in-Ok.is c.in-Some.ensures.steps in
    let so_far = c.loop-cycle.invariant in
    let pushed : string_bytes c.push_cycle.new.text ≡ string_bytes c.loop-cycle.text ++ (before_group c.loop-cycle.is_first ++ listing step.0) =
    c.in_ok-push_cycle.ensures
    ∙ ap (λ z. string_bytes c.loop-cycle.text ++ (before_group c.loop-cycle.is_first ++ listing z)) (ap (map id_of) c.deref.ensures.value ∙ step.1) in
    (so_far.0, so_far.1, groups_next (before_group c.loop-cycle.is_first) (string_bytes c.loop-cycle.text) (string_bytes c.push_cycle.new.text) _ step.0 c.next.new.self c.loop-cycle.cycle-iterator step.2 so_far.2 pushed)

pub returns : goal.returns
returns c =
    let so_far = c.loop-cycle.invariant in
    (so_far.0, so_far.1, ap (λ v. v.items) c.into_bytes.ensures.value ∙ groups_end (before_group c.loop-cycle.is_first) (string_bytes c.loop-cycle.text) _ c.loop-cycle.cycle-iterator c.in-None.ensures.steps.0 so_far.2)
