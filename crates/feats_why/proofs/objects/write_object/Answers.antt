use Rattle.std.proofs.Common.{[], ◌∷◌}
use Rattle.json.specs.Token.{begin_object}
use Rattle.feats_why.proofs.Tokens.{appended, on_ok, wrote}
use Rattle.feats_why.proofs.objects.write_object.Goals as goal

pub returns : goal.returns
returns c = on_ok c.end_object.result (wrote _ _ _ _ c.end_object.ensures) (λ last.
    appended _ _ _ (begin_object ∷ []) _ (wrote _ _ _ _ c.in_ok-begin_object.ensures) (appended _ _ _ _ _ c.in_ok-write_spot.ensures (appended _ _ _ _ _ c.in_ok-write_reason.ensures last)))
