use Rattle.std.proofs.Common.{◌≡◌, ◌∙◌, ap, map, length, subst, sym, List, Bool, Some}
use Rattle.std.specs.Prelude.{◌↔◌, IsTrue}
use Rattle.std.specs.Option.{option_map}
use Rattle.std.proofs.lemmas.Result.{IfOk-weaker}
use Rattle.digraphs.specs.Bits.{has}
use Rattle.feature_core.specs.Offers.{content_of}
use Rattle.feature_labels.specs.Names.{id_of}
use Rattle.walk_engine.specs.declared.walks.Step.{Step}
use Rattle.walk_engine.specs.Explanations.{IsExplanation}
use Rattle.walk_engine.specs.Laws.{every}
use Rattle.feature_graph.specs.Told.{step_name}
use Rattle.feature_graph.specs.Views.{graph_of, tables_of_graph, built_of}
use Rattle.feature_graph.specs.inner.Numbered.{AreNumbered}
use Rattle.feature_graph.proofs.BuiltLemmas.{built_count}
use Rattle.feature_graph.proofs.CheckLemmas.{explains_none, explains_some}
use Rattle.feature_graph.proofs.graph.FeatureGraph.check_explanation.Goals as goal

pub returns-in-None-clause-told : goal.returns-in-None-clause-told
returns-in-None-clause-told c =
    let g = graph_of c.args.self.now in
    let told = map step_name c.args.steps.now in
    let finds = subst (λ o. (steps : List Step) → (option_map (λ v. v.items) o ≡ Some steps) ↔ AreNumbered g told steps) c.in-None.is c.in-Ok.ensures in
    ((λ h. absurd (cc)), (λ x. absurd (explains_none g c.args.direction (map id_of c.args.initials.now) told finds x)))

pub check_steps-requires : goal.check_steps-requires
check_steps-requires c =
    let g = c.args.self.now in
    ap length c.members.ensures.value ∙ c.in_ok-set.ensures.members.size ∙ sym (built_count (tables_of_graph g) (built_of g) g.is_built)

pub returns-clause-told : goal.returns-clause-told
returns-clause-told c =
    let g = graph_of c.args.self.now in
    let names = map id_of c.args.initials.now in
    let told = map step_name c.args.steps.now in
    let numbers = c.in-Some.numbers.items in
    let finds = subst (λ o. (steps : List Step) → (option_map (λ v. v.items) o ≡ Some steps) ↔ AreNumbered g told steps) c.in-Some.is c.in-Ok.ensures in
    IfOk-weaker
    c.check_steps.result _ _
    (λ answer check.
    explains_some g c.args.direction names told numbers c.in_ok-set.set.members answer c.in_ok-set.ensures.members finds
    (subst (λ (l : List Step). IsTrue answer ↔ IsExplanation (content_of c.args.direction g.built) (has c.in_ok-set.set.members) every l) c.deref.ensures.value
    (subst (λ (m : List Bool). IsTrue answer ↔ IsExplanation (content_of c.args.direction g.built) (has m) every c.deref.result.now) c.members.ensures.value check)))
    c.check_steps.ensures.told
