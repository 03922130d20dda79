use Rattle.std.proofs.Common.{List, ℕ, None, refl, subst}
use Rattle.shortest_routes.specs.inner.Searches.{Grows, IsReached}
use Rattle.shortest_routes.proofs.SearchLemmas.{begun}
use Rattle.shortest_routes.proofs.search.first_level.Goals as goal

pub returns-clause-size : goal.returns-clause-size
returns-clause-size c = c.in_ok-reach_all.ensures.grows.size

pub returns-clause-searched : goal.returns-clause-searched
returns-clause-searched c = λ links.
    begun links c.args.targets.now c.args.steps.now.items c.reach_all.new.steps.items _ c.reach_all.new.found.items refl refl c.requires.blank
    (subst (λ (z : List ℕ). Grows (IsReached c.args.targets.now (record { distance = 0; next = None })) c.args.steps.now.items c.reach_all.new.steps.items z c.reach_all.new.found.items) c.new-level.ensures.items c.in_ok-reach_all.ensures.grows)
    c.in_ok-reach_all.ensures.all
