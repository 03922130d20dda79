use Rattle.std.proofs.Common.{◌≡◌, ◌++◌, [], ◌∷◌, map, arith, get_or, drop}
use Rattle.std.proofs.lemmas.List.{get_or_default}
use Rattle.std.proofs.lemmas.Result.{err_from_is_err_and}
use Rattle.std.proofs.lemmas.Grind.{common_steps}
use Rattle.guppy_packages.specs.Rows.{texts}
use Rattle.guppy_tool.specs.Faults.{bad_id, refusal_of}
use Rattle.guppy_tool.specs.Words.{given_of, id_in}
use Rattle.row_files.proofs.FirstFaultLemmas.{one_given, drop_map_at}
use Rattle.guppy_tool.proofs.WordLemmas.{word_refused, an_id}
use Rattle.guppy_tool.proofs.words.ids.Goals as goal

pub returns-in_err-id : goal.returns-in_err-id
returns-in_err-id c =
    let p = err_from_is_err_and c.from_residual.result c.from_residual.ensures.1 in
    let word = get_or c.args.words.now c.loop-word.word-index (record { ref_ptr = (0, 0); now = [] }) in
    let at = drop_map_at (λ t. t.now) c.args.words.now c.loop-word.word-index word c.loop-word-test.true (get_or_default c.args.words.now c.loop-word.word-index _ _ c.loop-word-test.true) in
    rw (p.1, p.2) (word_refused (refusal_of c.in_err-id.field-0.0) _ word.now (drop c.loop-word.word-index (texts c.args.words.now)) _ (texts c.args.words.now) c.loop-word.invariant at c.in_err-id.ensures)

pub loop-word-preserved : goal.loop-word-preserved
loop-word-preserved c =
    let word = get_or c.args.words.now c.loop-word.word-index (record { ref_ptr = (0, 0); now = [] }) in
    let at = drop_map_at (λ t. t.now) c.args.words.now c.loop-word.word-index word c.loop-word-test.true (get_or_default c.args.words.now c.loop-word.word-index _ _ c.loop-word-test.true) in
    let pushed : map given_of c.push.new.self.items ≡ map given_of c.loop-word.ids.items ++ given_of c.in_ok-id.field-0 ∷ [] = grind (arith, common_steps, c.in_ok-push.ensures.items) in
    rw pushed (one_given id_in bad_id _ word.now (drop c.loop-word.word-index (texts c.args.words.now)) _ (texts c.args.words.now) (given_of c.in_ok-id.field-0) c.loop-word.invariant at (an_id word.now _ _ c.in_ok-id.ensures))
