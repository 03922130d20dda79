use Rattle.std.proofs.Common.{◌≡◌, ◌≤◌, List, [], ◌∷◌, ◌++◌, length, get_or, ap, ◌∙◌, refl, arith, length-append}
use Rattle.std.proofs.lemmas.Option.{slice_get-get_or, slice_get_within}
use Rattle.feature_edges.specs.declared.candidate.CandidateKind.TheVariants.{FeatureToBase}
use Rattle.feature_edges.specs.inner.Parts.{key}
use Rattle.feature_edges.proofs.KeyRuns.{key_of_tables, run_whole, walk_next, walk_end, walk_none}
use Rattle.feature_edges.proofs.table.MadeEdges.add_all.Goals as goal

no_element : {X : Type 0} (xs : List X) → length xs ≤ 0 → xs ≡ []
no_element [] h = refl
no_element (x ∷ xs) h = absurd (omega (arith, h))

pub loop-rest-init : goal.loop-rest-init
loop-rest-init c = walk_none c.args.material.numbers.graph.now c.args.keys.now c.args.self.now c.requires.keys.ordered

pub split_run-requires-clause-ordered : goal.split_run-requires-clause-ordered
split_run-requires-clause-ordered c = c.loop-rest.invariant.ordered

pub split_run-requires-clause-first : goal.split_run-requires-clause-first
split_run-requires-clause-first c = slice_get-get_or c.loop-rest.rest.now 0 (key 0 0 FeatureToBase 0 0) (omega arith)

pub add-requires-clause-of_tables : goal.add-requires-clause-of_tables
add-requires-clause-of_tables c =
    let rest = c.loop-rest.rest.now in
    key_of_tables c.args.material.numbers.graph.now c.args.keys.now rest c.args.self.now c.loop-rest.self c.loop-rest.invariant c.split_run.result.0.now c.split_run.result.1.now (get_or rest 0 (key 0 0 FeatureToBase 0 0)) c.split_run.ensures c.requires.keys

pub add-requires-clause-run : goal.add-requires-clause-run
add-requires-clause-run c =
    let rest = c.loop-rest.rest.now in
    run_whole c.args.material.numbers.graph.now c.args.keys.now rest c.args.self.now c.loop-rest.self c.loop-rest.invariant c.split_run.result.0.now c.split_run.result.1.now (get_or rest 0 (key 0 0 FeatureToBase 0 0)) c.split_run.ensures c.requires.keys

pub loop-rest-preserved : goal.loop-rest-preserved
loop-rest-preserved c =
    let rest = c.loop-rest.rest.now in
    walk_next c.args.material.numbers.graph.now c.args.keys.now rest c.args.self.now c.loop-rest.self c.loop-rest.invariant c.split_run.result.0.now c.split_run.result.1.now (get_or rest 0 (key 0 0 FeatureToBase 0 0)) c.split_run.ensures c.add.new.self c.in_ok-add.ensures

pub add-requires-clause-made : goal.add-requires-clause-made
add-requires-clause-made c = let made = c.requires.made in (made.0 ++ c.loop-rest.invariant.kept, c.loop-rest.invariant.made made.0 made.1)

pub loop-rest-smaller : goal.loop-rest-smaller
loop-rest-smaller c =
    let run = c.split_run.result.0.now in
    let later = c.split_run.result.1.now in
    omega (arith, ap length c.split_run.ensures.whole ∙ length-append run later, slice_get_within run 0 _ c.split_run.ensures.first)

pub returns : goal.returns
returns c =
    walk_end c.args.material.numbers.graph.now c.args.keys.now c.loop-rest.rest.now c.args.self.now c.loop-rest.self c.loop-rest.invariant (no_element c.loop-rest.rest.now (omega arith))
