use Rattle.std.proofs.Common.{List, ℕ, Option, [], ◌∷◌, subst}
use Rattle.std.specs.Prelude.{codes}
use Rattle.json.specs.Token.{begin_object}
use Rattle.feats_lines.proofs.Tokens.{appended, on_ok, wrote}
use Rattle.feats_lines.specs.parts.Members.{Appends, optional_member}
use Rattle.feats_routes.proofs.objects.write_step.Goals as goal

pub returns : goal.returns
returns g c = on_ok c.end_object.result (wrote _ _ _ _ c.end_object.ensures) (λ last.
    appended _ _ _ (begin_object ∷ []) _ (wrote _ _ _ _ c.in_ok-begin_object.ensures)
    (appended _ _ _ _ _ c.in_ok-write_node.ensures
    (appended _ _ _ _ _ (subst (λ (o : Option (List ℕ)). Appends c.write_node.new.writer c.write_optional.new.writer (optional_member (codes "kind") o)) c.word_of.ensures c.in_ok-write_optional.ensures) last)))
