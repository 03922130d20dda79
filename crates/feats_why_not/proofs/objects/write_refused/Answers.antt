use Rattle.std.proofs.Common.{[], ◌∷◌}
use Rattle.std.specs.Prelude.{codes}
use Rattle.json.specs.Token.{key, null}
use Rattle.feats_why_not.proofs.Tokens.{appended, on_ok, wrote}
use Rattle.feats_why_not.proofs.objects.write_refused.Goals as goal

pub returns : goal.returns
returns c = on_ok c.write_member.result c.write_member.ensures (λ last.
    appended _ _ _ (key (codes "on") ∷ []) _ (wrote _ _ _ _ c.in_ok-key.ensures) (appended _ _ _ (null ∷ []) _ (wrote _ _ _ _ c.in_ok-null.ensures) last))
