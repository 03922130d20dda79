use Rattle.std.proofs.Common.{[], ◌∷◌}
use Rattle.std.specs.Prelude.{codes}
use Rattle.json.specs.Token.{begin_array, key}
use Rattle.feats_lines.proofs.Tokens.{appended, on_ok, wrote}
use Rattle.feats_routes.proofs.objects.write_route.Goals as goal

pub returns : goal.returns
returns g c = on_ok c.end_array.result (wrote _ _ _ _ c.end_array.ensures) (λ last.
    appended _ _ _ (key (codes "route") ∷ []) _ (wrote _ _ _ _ c.in_ok-key.ensures)
    (appended _ _ _ (begin_array ∷ []) _ (wrote _ _ _ _ c.in_ok-begin_array.ensures) (appended _ _ _ _ _ c.in_ok-write_steps.ensures last)))
