use Rattle.std.proofs.Common.{◌≡◌, ◌∙◌, ℕ, List, Some, None, ap, sym, subst, set, get_or-set_same}
use Rattle.shortest_routes.specs.inner.Searches.{Grows}
use Rattle.shortest_routes.specs.inner.Steps.{step_at}
use Rattle.shortest_routes.proofs.SearchLemmas.{grows_none, grows_one}
use Rattle.shortest_routes.proofs.search.reach.Goals as goal

pub returns-in_ok-push-in-None : goal.returns-in_ok-push-in-None
returns-in_ok-push-in-None c = record {
  grows = subst (λ (z : List ℕ). Grows (λ n s. (n ≡ c.args.node) × (s ≡ c.args.step)) c.args.steps.now.items (set c.args.steps.now.items c.args.node (Some c.args.step)) c.args.found.now.items z)
      (sym c.in_ok-push-in-None.ensures.items)
      (grows_one c.args.steps.now.items c.args.found.now.items c.args.node c.args.step c.requires (sym (c.in-None.ensures ∙ ap (λ z. step_at z c.args.node) c.deref.ensures.value)));
  has_step = (c.args.step, get_or-set_same c.args.steps.now.items c.args.node (Some c.args.step) None c.requires);
}

pub returns-in-Some : goal.returns-in-Some
returns-in-Some c = record {
  grows = grows_none _ c.args.steps.now.items c.args.found.now.items;
  has_step = (c.in-Some._step, sym (c.in-Some.ensures ∙ ap (λ z. step_at z c.args.node) c.deref.ensures.value));
}
