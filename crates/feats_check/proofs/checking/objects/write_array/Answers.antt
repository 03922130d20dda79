use Rattle.std.proofs.Common.{[], ◌∷◌}
use Rattle.json.specs.Token.{begin_array}
use Rattle.feats_lines.proofs.Tokens.{appended, on_ok, wrote}
use Rattle.feats_check.proofs.checking.objects.write_array.Goals as goal

pub returns : goal.returns
returns c = on_ok c.end_array.result (wrote _ _ _ _ c.end_array.ensures) (λ last.
    appended _ _ _ (begin_array ∷ []) _ (wrote _ _ _ _ c.in_ok-begin_array.ensures) (appended _ _ _ _ _ c.in_ok-write_objects.ensures last))
