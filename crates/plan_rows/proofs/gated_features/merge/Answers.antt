use Rattle.std.proofs.Common.{◌∙◌, ap, List, map, ℕ}
use Rattle.std.specs.Borrow.{Bor}
use Rattle.std.specs.String.{string_bytes}
use Rattle.std.proofs.lemmas.List.{map-append}
use Rattle.cargo_workspaces.specs.Views.{texts}
use Rattle.plan_rows.specs.inner.Merged.{merged}
use Rattle.plan_rows.proofs.GateLemmas.{after-le, merged-step}
use Rattle.plan_rows.proofs.gated_features.merge.Goals as goal

pub loop-item-preserved : goal.loop-item-preserved
loop-item-preserved c =
    let items = c.args.items.now in
    let gates = map string_bytes c.args.gates.now in
    let text = λ (t : Bor (List ℕ)). t.now in
    let next = c.loop-item.next in
    let waiting = c.waits-waiting.result in
    let r1 = texts c.push_gate.new.items.items in (
      merged-step text items gates c.loop-item.item-index next c.after-next.result _ waiting (merged (texts items) gates) (texts c.loop-item.all.items) r1 (texts c.push.new.self.items) c.loop-item-test.true c.waits-waiting.ensures c.after-next.ensures c.loop-item.invariant.0 c.in_ok-push_gate.ensures
          (ap texts c.in_ok-push.ensures.items ∙ map-append text c.push_gate.new.items.items _),
      after-le waiting next c.after-next.result c.loop-item.item-index c.after-next.ensures c.loop-item.invariant.1,
    )
