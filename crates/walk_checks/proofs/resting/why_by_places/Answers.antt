use Rattle.std.proofs.Common.{◌≡◌, ◌∙◌, List, length, sym, subst, arith}
use Rattle.std.specs.Prelude.{vec_len}
use Rattle.std.proofs.lemmas.Bool.{eqb-true, eqb-false}
use Rattle.digraphs.specs.Bits.{has}
use Rattle.walk_engine.specs.declared.walks.Step.{Step}
use Rattle.walk_checks.specs.Whys.{IsWhy}
use Rattle.walk_checks.proofs.Bools.{not_true}
use Rattle.walk_checks.proofs.BackLemmas.{back_kept, back_empty, listed_node}
use Rattle.walk_checks.proofs.resting.why_by_places.Goals as goal

pub returns-then-node-node_count : goal.returns-then-node-node_count
returns-then-node-node_count g c initials A size ok =
    not_true _ (λ t.
    let r = listed_node (g.T.EdgeTable.content c.args.table.now) initials A c.args.steps.now c.args.node c.node_count.ensures.ends size ok t in
    omega (arith, r, c.if-node-node_count.true, c.node_count.ensures.count))

pub returns-then-is_empty : goal.returns-then-is_empty
returns-then-is_empty g c initials A size ok =
    let was = c.in_ok-kept.ensures initials A size ok in
    let empty : vec_len c.in_ok-kept.kept ≡ 0 = eqb-true (vec_len c.in_ok-kept.kept) 0 (sym c.is_empty.ensures ∙ c.if-is_empty.true) in
    back_empty (g.T.EdgeTable.content c.args.table.now) (has initials) A c.args.steps.now c.args.node was.0 c.in_ok-kept.kept.items (omega (arith, empty, c.in_ok-kept.kept.ok.0)) ok was.1

pub returns : goal.returns
returns g c initials A size ok =
    let was = c.in_ok-kept.ensures initials A size ok in
    let full : length c.in_ok-kept.kept.items ≡ 0 → ⊥ = λ e. eqb-false (vec_len c.in_ok-kept.kept) 0 (sym c.is_empty.ensures ∙ c.if-is_empty.false) (omega (arith, e, c.in_ok-kept.kept.ok.0)) in
    let kept = back_kept (g.T.EdgeTable.content c.args.table.now) (has initials) A c.args.steps.now c.args.node was.0 c.in_ok-kept.kept.items full ok was.1 in
    subst (λ (xs : List Step). IsWhy (g.T.EdgeTable.content c.args.table.now) (has initials) A c.args.steps.now c.args.node xs) (sym c.reverse.ensures.items) kept
