use Rattle.std.proofs.Common.{◌≡◌, ℕ, sym, subst}
use Rattle.guppy_packages.specs.declared.direction.DependencyDirection.TheVariants.{Forward}
use Rattle.digraphs.specs.Bits.{has}
use Rattle.feature_core.specs.Built.{NodeNamed}
use Rattle.feature_core.specs.Offers.{content_of, HaveOneName, IsOffer}
use Rattle.walk_engine.specs.declared.walks.Half.{Half}
use Rattle.feature_graph.specs.Values.{Graph}
use Rattle.feature_graph.specs.Visits.{query_content, shown}
use Rattle.feature_graph.proofs.Explanations.{explained_run}
use Rattle.feature_graph.proofs.PassLemmas.{run_passes}
use Rattle.feature_graph.proofs.ToldLemmas.{Name}
use Rattle.feature_graph.proofs.laws.resolved_passes_checks.Goals as goal

abbrev OneOffer : Graph → Type 0
OneOffer g = (d : ℕ) (i : Half) (e : ℕ) (j : Half) → IsOffer (content_of Forward g.built) d i → IsOffer (content_of Forward g.built) e j → HaveOneName g.built d i e j → (d ≡ e) × (i ≡ j)

abbrev OneNode : Graph → Type 0
OneNode g = (name : Name) (m n : ℕ) → NodeNamed g.tables m name → NodeNamed g.tables n name → m ≡ n

pub returns : goal.returns
returns g c q s t M steps refused same walk =
    let graph = c.args.graph in
    let run = explained_run (query_content q) (has q.initials) (shown g.V.FeatureLinkVisitor.visit_gives q) s t M steps refused walk in
    let one_offer : OneOffer q.graph = subst OneOffer (sym same) (λ d i e j. c.link_names_offer.ensures.offers graph.built.now Forward d i e j graph.is_built) in
    let one_node : OneNode q.graph = subst OneNode (sym same) c.link_names_offer.ensures.nodes in
    run_passes q.graph one_offer one_node q.direction q.initials M steps refused run
    (c.run_is_exact.ensures.explained (query_content q) (has q.initials) M steps refused run)
    (c.run_is_exact.ensures.exact (query_content q) (has q.initials) M steps refused run)
