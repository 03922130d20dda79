use Rattle.std.proofs.Common.{◌∙◌, sym, subst}
use Rattle.guppy_packages.specs.Metadata.{link_table_of}
use Rattle.guppy_packages.specs.Stored.{declared}
use Rattle.feature_links.specs.Links.{IsLink}
use Rattle.feature_edges.proofs.GateLemmas.{start_gate}
use Rattle.feature_edges.proofs.RequestLemmas.{start_base}
use Rattle.feature_edges.proofs.WeakLemmas.{declared_optional}
use Rattle.feature_edges.proofs.collect.declarations.start.Goals as goal

pub returns-then-not-optional : goal.returns-then-not-optional
returns-then-not-optional c = start_base c.args.numbers.graph.now (link_table_of c.args.link) (declared c.args.declaration.now) c.from.result.package_ix c.base.result (sym c.optional.ensures ∙ c.if-not-optional.true) c.from.ensures.number c.base.ensures.number c.base.ensures.node

pub gate_at-requires-clause-link : goal.gate_at-requires-clause-link
gate_at-requires-clause-link c =
    let link = link_table_of c.args.link in
    let k = c.link_ix.result in
    declared_optional c.args.numbers.graph.now k link (declared c.args.declaration.now) (subst (λ z. IsLink z k link) c.requires.graph c.link_ix.ensures.link) c.requires.declaration (sym c.optional.ensures ∙ c.if-not-optional.false)

pub returns : goal.returns
returns c =
    let link = link_table_of c.args.link in
    let k = c.link_ix.result in
    start_gate c.args.numbers.graph.now c.facts.ensures k c.gate_at.result link (declared c.args.declaration.now) (subst (λ z. IsLink z k link) c.requires.graph c.link_ix.ensures.link) (sym c.optional.ensures ∙ c.if-not-optional.false) c.gate_at.ensures
