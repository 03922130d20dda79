use Rattle.std.proofs.Common.{◌≡◌, ◌∙◌, ap, map, length, subst, sym, ℕ, List, Bool, Some}
use Rattle.std.specs.Prelude.{◌↔◌, IsTrue}
use Rattle.std.specs.Option.{option_map}
use Rattle.std.proofs.lemmas.Result.{IfOk-weaker}
use Rattle.digraphs.specs.Bits.{has}
use Rattle.feature_core.specs.Offers.{content_of}
use Rattle.feature_labels.specs.Names.{id_of}
use Rattle.walk_engine.specs.declared.walks.Half.{Half}
use Rattle.walk_engine.specs.declared.walks.Step.{Step}
use Rattle.walk_checks.specs.Exact.{IsExact}
use Rattle.feature_graph.specs.Told.{offer_name, step_name}
use Rattle.feature_graph.specs.Views.{graph_of, tables_of_graph, built_of}
use Rattle.feature_graph.specs.inner.Numbered.{AreNumbered}
use Rattle.feature_graph.proofs.BuiltLemmas.{built_count}
use Rattle.feature_graph.proofs.CheckLemmas.{explains_all_none, explains_all_some}
use Rattle.feature_graph.proofs.graph.FeatureGraph.check_exact.Goals as goal

pub returns-in_default-found-clause-told : goal.returns-in_default-found-clause-told
returns-in_default-found-clause-told c =
    let g = graph_of c.args.self.now in
    let told = map step_name c.args.steps.now in
    let finds = subst (λ o. (steps : List Step) → (option_map (λ v. v.items) o ≡ Some steps) ↔ AreNumbered g told steps) c.in_default-found.is c.in-Ok.ensures in
    ((λ h. absurd (cc)), (λ x. absurd (explains_all_none g c.args.direction (map id_of c.args.initials.now) told (map offer_name c.args.refused.now) finds x)))

pub check_exact_steps-requires : goal.check_exact_steps-requires
check_exact_steps-requires c =
    let g = c.args.self.now in
    ap length c.members.ensures.value ∙ c.in_ok-set.ensures.members.size ∙ sym (built_count (tables_of_graph g) (built_of g) g.is_built)

pub returns-clause-told : goal.returns-clause-told
returns-clause-told c =
    let g = graph_of c.args.self.now in
    let names = map id_of c.args.initials.now in
    let told = map step_name c.args.steps.now in
    let numbers = c.in-Some.numbers.items in
    let finds = subst (λ o. (steps : List Step) → (option_map (λ v. v.items) o ≡ Some steps) ↔ AreNumbered g told steps) c.in-Some.is c.in-Ok.ensures in
    IfOk-weaker
    c.check_exact_steps.result _ _
    (λ answer check.
    explains_all_some g c.args.direction names told (map offer_name c.args.refused.now) numbers c.in_ok-set.set.members c.in-Ok-numbered_offers.offers.items answer c.in_ok-set.ensures.members finds (c.in-Ok-numbered_offers.ensures c.args.direction)
    (subst (λ (l : List (ℕ × Half)). IsTrue answer ↔ IsExact (content_of c.args.direction g.built) (has c.in_ok-set.set.members) l numbers) c.deref-2.ensures.value
    (subst (λ (l : List Step). IsTrue answer ↔ IsExact (content_of c.args.direction g.built) (has c.in_ok-set.set.members) c.deref-2.result.now l) c.deref.ensures.value
    (subst (λ (m : List Bool). IsTrue answer ↔ IsExact (content_of c.args.direction g.built) (has m) c.deref-2.result.now c.deref.result.now) c.members.ensures.value check))))
    c.check_exact_steps.ensures.told
