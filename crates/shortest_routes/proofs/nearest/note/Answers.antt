use Rattle.std.proofs.Common.{◌∙◌, ℕ, List, None, Option, ap, get_or}
use Rattle.shortest_routes.specs.inner.Nearest.{nearer}
use Rattle.shortest_routes.proofs.NearestLemmas.{written}
use Rattle.shortest_routes.proofs.nearest.note.Goals as goal

pub returns-clause-noted : goal.returns-clause-noted
returns-clause-noted c =
    written (λ b. nearer c.args.table.now b c.args.start) c.args.nearest.now.items c.args.owner c.nearer.result c.requires
    (c.nearer.ensures ∙ ap (λ (b : Option ℕ). nearer c.args.table.now b c.args.start) (c.start_of.ensures ∙ ap (λ (z : List (Option ℕ)). get_or z c.args.owner None) c.deref.ensures.value))
