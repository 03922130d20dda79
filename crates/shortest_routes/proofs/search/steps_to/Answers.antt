use Rattle.std.proofs.Common.{◌≡◌, ◌∙◌, ◌<◌, ℕ, List, None, Option, Contains, ap, length, subst, sym}
use Rattle.std.proofs.lemmas.List.{length-replicate}
use Rattle.std.specs.Global.{Vec}
use Rattle.shortest_routes.specs.inner.Links.{AreBefore, nodes_before}
use Rattle.shortest_routes.specs.declared.step.Step.{Step}
use Rattle.shortest_routes.proofs.search.steps_to.Goals as goal

pub first_level-requires-clause-within : goal.first_level-requires-clause-within
first_level-requires-clause-within c = λ n h.
    let long : length c.in_ok-steps.steps.items ≡ c.in_ok-count.count = ap length c.in_ok-steps.ensures ∙ length-replicate {A = Option Step} c.in_ok-count.count None in
    subst (λ m. n < m) (sym long) (c.in_ok-count.ensures.targets n h)

pub search-requires : goal.search-requires
search-requires c = λ n node h.
    let long : length c.first_level.new.steps.items ≡ c.in_ok-count.count = c.in_ok-level.ensures.size ∙ ap length c.in_ok-steps.ensures ∙ length-replicate {A = Option Step} c.in_ok-count.count None in
    let there : Contains (nodes_before c.in_ok-lists.lists.items node) n = subst (λ (z : List (Vec ℕ)). Contains (nodes_before z node) n) c.deref.ensures.value h in
    subst (λ m. n < m) (sym long) (c.in_ok-count.ensures.links n node ((c.in_ok-lists.ensures n node).0 there)).0

pub returns : goal.returns
returns c =
    let links = c.args.links.now in
    c.in_ok-search.ensures links c.args.targets.now (subst (AreBefore links) (sym c.deref.ensures.value) c.in_ok-lists.ensures) (c.in_ok-level.ensures.searched links)
