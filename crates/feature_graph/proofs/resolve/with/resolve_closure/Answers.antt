use Rattle.std.proofs.Common.{◌≡◌, ◌∙◌, refl}
use Rattle.std.proofs.lemmas.Result.{on_err_weaker}
use Rattle.feature_graph.specs.Visits.{query_content}
use Rattle.feature_graph.proofs.SetLemmas.{ok_map}
use Rattle.feature_graph.proofs.Visits.{may_ask, legal_run, is_walk, at_both_ends}
use Rattle.feature_graph.proofs.resolve.with.resolve_closure.Goals as goal

pub resolve_with-requires : goal.resolve_with-requires
resolve_with-requires g c κs = (
  (refl, tt),
  may_ask
      (λ s. s.f.ghost_name ≡ c.args.visitor.now.f.ghost_name) (λ s. s.f.now) _ _ (λ p e h answer r holds step. (step.0 ∙ holds, step.1))
      _ _ (query_content c.args.query) c.args.visitor.now refl (λ p e h w holds is half can. can) c.requires,
)

pub returns-clause-same_reference : goal.returns-clause-same_reference
returns-clause-same_reference g c =
    at_both_ends
    _ _ c.resolve_with.result c.resolve_with.ensures.walk c.resolve_with.ensures.run
    (λ set walk. (is_walk
    (λ s. s.f.ghost_name ≡ c.args.visitor.now.f.ghost_name) (λ s. s.f.now) _ _ (λ p e h answer r holds step. (step.0 ∙ holds, step.1))
    _ _ c.args.visitor.now c.resolve_with.new.visitor _ refl walk).0)
    (λ run. (legal_run
    (λ s. s.f.ghost_name ≡ c.args.visitor.now.f.ghost_name) (λ s. s.f.now) _ _ (λ p e h answer r holds step. (step.0 ∙ holds, step.1))
    _ _ c.args.visitor.now c.resolve_with.new.visitor refl run).0)

pub returns-clause-walk : goal.returns-clause-walk
returns-clause-walk g c =
    ok_map
    _ _ c.resolve_with.result c.resolve_with.ensures.walk
    (λ set walk. (is_walk
    (λ s. s.f.ghost_name ≡ c.args.visitor.now.f.ghost_name) (λ s. s.f.now) _ _ (λ p e h answer r holds step. (step.0 ∙ holds, step.1))
    _ _ c.args.visitor.now c.resolve_with.new.visitor _ refl walk).1)

pub returns-clause-run : goal.returns-clause-run
returns-clause-run g c =
    on_err_weaker
    c.resolve_with.result
    (λ run. (legal_run
    (λ s. s.f.ghost_name ≡ c.args.visitor.now.f.ghost_name) (λ s. s.f.now) _ _ (λ p e h answer r holds step. (step.0 ∙ holds, step.1))
    _ _ c.args.visitor.now c.resolve_with.new.visitor refl run).1)
    c.resolve_with.ensures.run
