use Rattle.std.proofs.Common.{◌∙◌, refl, sym, subst}
use Rattle.std.proofs.lemmas.Result.{IfOk-weaker}
use Rattle.guppy_packages.specs.Metadata.{link_table_of}
use Rattle.feature_labels.specs.Names.LabelName.{optional}
use Rattle.feature_links.specs.Links.{IsLink}
use Rattle.feature_edges.specs.Edges.{IsGate}
use Rattle.feature_edges.specs.Nodes.{NodeAt}
use Rattle.feature_edges.proofs.GateLemmas.{gate_there, no_gate, optional_test}
use Rattle.feature_edges.proofs.WeakLemmas.{optional_node, not_none}
use Rattle.feature_edges.proofs.gate_nodes.gate_node.Goals as goal

pub returns-then-not-is_any_included : goal.returns-then-not-is_any_included
returns-then-not-is_any_included c has =
    let t = c.args.numbers.graph.now in
    let k = c.args.link.link_ix in
    let link = link_table_of c.args.link in
    let is : IsLink t k link = subst (λ z. IsLink z k link) c.requires c.args.link.stands in
    absurd (no_gate t k link is (sym (optional_test c.declarations.result.now link c.is_any_included.result c.declarations.ensures c.is_any_included.ensures) ∙ c.if-not-is_any_included.true) has)

pub unreachable-requires : goal.unreachable-requires
unreachable-requires c =
    let t = c.args.numbers.graph.now in
    let k = c.args.link.link_ix in
    let link = link_table_of c.args.link in
    let name = c.dep_name.result.now in
    let is : IsLink t k link = subst (λ z. IsLink z k link) c.requires c.args.link.stands in
    let node = optional_node t c.facts.ensures k link is (sym (optional_test c.declarations.result.now link c.is_any_included.result c.declarations.ensures c.is_any_included.ensures) ∙ c.if-not-is_any_included.false) in
    let named : NodeAt t node.0 link.from (optional name) = subst (λ z. NodeAt t node.0 link.from (optional z)) (sym c.dep_name.ensures) node.1 in
    let there : NodeAt t node.0 c.from.result.package_ix (optional name) = subst (λ z. NodeAt t node.0 z (optional name)) (sym c.from.ensures.number) named in
    not_none c.optional.result node.0 c.in-None.is ((c.optional.ensures.node node.0).1 there)

pub returns : goal.returns
returns c =
    let t = c.args.numbers.graph.now in
    let k = c.args.link.link_ix in
    let link = link_table_of c.args.link in
    let is : IsLink t k link = subst (λ z. IsLink z k link) c.requires c.args.link.stands in
    let node = c.in-Some.node in
    IfOk-weaker c.narrow.result _ _ (λ d e has. subst (IsGate t k) (sym e) (gate_there t k node c.from.result.package_ix link c.dep_name.result.now is c.from.ensures.number c.dep_name.ensures ((c.in-Some.ensures.node node).0 refl))) c.narrow.ensures
