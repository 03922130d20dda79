use Rattle.std.proofs.Common.{◌≡◌, ◌∙◌, Some, None, ap, take, arith}
use Rattle.std.specs.Prelude.{position}
use Rattle.std.proofs.lemmas.Str.{IsCharBoundary-before_ascii, IsCharBoundary-after_ascii}
use Rattle.guppy_packages.specs.Items.{is_slash}
use Rattle.guppy_packages.proofs.ItemLemmas.{cut_nowhere, cut_there, slash_found, slash_is_ascii}
use Rattle.guppy_packages.proofs.named_feature_dep.cut_at_slash.Goals as goal

pub returns-in_err-at : goal.returns-in_err-at
returns-in_err-at c =
    let none : None ≡ position is_slash c.args.input.now = c.in_err-at.ensures ∙ ap (position is_slash) c.as_bytes.ensures.value in
    rw c.from_residual.ensures (cut_nowhere c.args.input.now none)

pub range-requires-clause-end_boundary : goal.range-requires-clause-end_boundary
range-requires-clause-end_boundary c =
    let at : Some c.in_ok-at.at ≡ position is_slash c.args.input.now = c.in_ok-at.ensures ∙ ap (position is_slash) c.as_bytes.ensures.value in
    IsCharBoundary-before_ascii c.args.input.now c.in_ok-at.at (slash_found c.args.input.now c.in_ok-at.at at).0 (slash_is_ascii c.args.input.now c.in_ok-at.at at)

pub range_from-requires : goal.range_from-requires
range_from-requires c _ =
    let at : Some c.in_ok-at.at ≡ position is_slash c.args.input.now = c.in_ok-at.ensures ∙ ap (position is_slash) c.as_bytes.ensures.value in
    IsCharBoundary-after_ascii c.args.input.now c.in_ok-at.at c.utf8.input (slash_found c.args.input.now c.in_ok-at.at at).0 (slash_is_ascii c.args.input.now c.in_ok-at.at at)

pub returns : goal.returns
returns c =
    let at : Some c.in_ok-at.at ≡ position is_slash c.args.input.now = c.in_ok-at.ensures ∙ ap (position is_slash) c.as_bytes.ensures.value in
    let front : c.range.result.now ≡ take c.in_ok-at.at c.args.input.now = c.range.ensures.value ∙ ap (λ k. take k c.args.input.now) (omega arith) in
    rw (front, c.range_from.ensures.value) (cut_there c.args.input.now c.in_ok-at.at at)
