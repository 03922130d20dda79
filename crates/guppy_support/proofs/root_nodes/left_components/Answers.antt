use Rattle.std.proofs.Common.{◌≡◌, ◌<◌, ◌∙◌, ◌∷◌, ℕ, Bool, List, false, length, All, ap, sym, subst, arith}
use Rattle.std.specs.Prelude.{◌||◌}
use Rattle.std.specs.List.{list_any}
use Rattle.std.proofs.lemmas.List.{length-replicate}
use Rattle.std.proofs.lemmas.List.Elements.{All-head, All-rest, All-same}
use Rattle.digraphs.specs.Bits.{has}
use Rattle.guppy_support.specs.Views.{leaves, links_in_order}
use Rattle.guppy_support.proofs.RootLemmas.{links_within, noted_more, none_noted}
use Rattle.guppy_support.proofs.root_nodes.left_components.Goals as goal

pub loop-edge-init : goal.loop-edge-init
loop-edge-init c =
    let es = c.args.digraph.now.edges in
    let items = c.into_iter-edge-iterator.ensures.into_iter_gives ∙ c.new-edge-items.ensures in
    record {
      size = ap length c.in_ok-left.ensures ∙ length-replicate c.component_count.result false ∙ c.component_count.ensures;
      within = subst (All (λ (k : ℕ). k < length es)) (sym items) (links_within c.args.reading es c.args.order.now.list c.args.members.now);
      left = λ k h.
          let test = leaves c.args.reading es c.args.order.now k in
          let none : has c.in_ok-left.left k ≡ false = ap (λ (s : List Bool). has s k) c.in_ok-left.ensures ∙ none_noted c.component_count.result k (omega (arith, h, c.component_count.ensures)) in
          ap (λ (b : Bool). b || list_any test c.into_iter-edge-iterator.result) none ∙ ap (list_any test) items;
    }

pub note-requires-clause-edge : goal.note-requires-clause-edge
note-requires-clause-edge c =
    let below : ℕ → Type 0 = λ k. k < length c.args.digraph.now.edges in
    All-head below c.in-Some.edge c.next.new.self (All-same below (c.in-Some.edge ∷ c.next.new.self) c.loop-edge.edge-iterator (sym c.in-Some.ensures.steps) c.loop-edge.invariant.within)

pub loop-edge-preserved : goal.loop-edge-preserved
loop-edge-preserved c =
    let es = c.args.digraph.now.edges in
    record {
      size = c.note.ensures.size;
      within = All-rest (λ (k : ℕ). k < length es) c.in-Some.edge c.next.new.self c.loop-edge.edge-iterator c.in-Some.ensures.steps c.loop-edge.invariant.within;
      left = λ k h.
          noted_more (leaves c.args.reading es c.args.order.now k) (has c.loop-edge.left k) (has c.note.new.left k) c.in-Some.edge c.next.new.self
          (links_in_order c.args.reading es c.args.order.now.list c.args.members.now) c.loop-edge.edge-iterator c.in-Some.ensures.steps
          (c.note.ensures.left k h) (c.loop-edge.invariant.left k h);
    }
