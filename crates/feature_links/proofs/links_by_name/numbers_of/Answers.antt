use Rattle.std.proofs.Common.{◌∙◌, ◌-◌, ap, arith, drop, length, sym, subst, take}
use Rattle.std.specs.Prelude.{filter}
use Rattle.std.specs.Str.{bytes_eq}
use Rattle.guppy_packages.specs.Metadata.{package_number_of}
use Rattle.guppy_packages.specs.Tables.{AreLinksFrom}
use Rattle.feature_links.specs.inner.LinkOrder.{AreOrdered, link_name}
use Rattle.feature_links.proofs.LinkOrderLemmas.{none_under, part_ordered, part_under}
use Rattle.feature_links.proofs.links_by_name.numbers_of.Goals as goal

pub returns-then-from-package_count : goal.returns-then-from-package_count
returns-then-from-package_count c = none_under c.args.groups.now.graph.now c.facts.ensures c.args.from c.args.name.now c.args.groups.now.links.items (omega (arith, c.if-from-package_count.true, c.package_count.ensures))

pub links_with_name-requires : goal.links_with_name-requires
links_with_name-requires c =
    let groups = c.args.groups.now in
    let t = groups.graph.now in
    let start = c.direct_links-range.result.start in
    let end = c.direct_links-range.result.end in
    let from : AreLinksFrom t.links c.args.from start end =
    subst (λ z. AreLinksFrom t.links z start end) c.package.ensures.number
    (subst (λ g. AreLinksFrom g.links (package_number_of c.package.result) start end) c.package.ensures.graph c.direct_links-range.ensures) in
    subst (λ xs. AreOrdered t (take (end - start) (drop start xs))) (sym c.deref.ensures.value)
    (part_ordered t (length t.packages) groups.links.items groups.by_name c.args.from start end (omega (arith, c.if-from-package_count.false, c.package_count.ensures)) from)

pub returns : goal.returns
returns c =
    let groups = c.args.groups.now in
    let t = groups.graph.now in
    let name = c.args.name.now in
    let start = c.direct_links-range.result.start in
    let end = c.direct_links-range.result.end in
    let from : AreLinksFrom t.links c.args.from start end =
    subst (λ z. AreLinksFrom t.links z start end) c.package.ensures.number
    (subst (λ g. AreLinksFrom g.links (package_number_of c.package.result) start end) c.package.ensures.graph c.direct_links-range.ensures) in
    c.links_with_name.ensures
    ∙ ap (λ xs. filter (λ l. bytes_eq name (link_name t l)) (take (end - start) (drop start xs))) c.deref.ensures.value
    ∙ part_under t (length t.packages) groups.links.items groups.by_name c.args.from start end (omega (arith, c.if-from-package_count.false, c.package_count.ensures)) from name
