use Rattle.std.proofs.Common.{◌∙◌, ◌+◌, ap, sym, subst}
use Rattle.std.specs.Prelude.{filter}
use Rattle.guppy_packages.specs.Metadata.{package_number_of}
use Rattle.guppy_packages.specs.Tables.{AreLinksFrom}
use Rattle.feature_links.specs.inner.LinkOrder.{AreByName, IsPartSorted}
use Rattle.feature_links.specs.NamedLinks.{is_link_under}
use Rattle.feature_links.proofs.GroupedLinks.{all_under}
use Rattle.feature_links.proofs.LinkOrderLemmas.{long, next_sorted, same_under, unsorted, written_over}
use Rattle.feature_links.proofs.links_by_name.named_links.Goals as goal

pub loop-ix-init : goal.loop-ix-init
loop-ix-init c =
    let t = c.args.graph.now in
    let all = c.in_ok-links.ensures in
    (unsorted t c.in_ok-links.links.items all, λ p name. ap (filter (is_link_under t p name)) all ∙ all_under t p name)

pub loop-ix-preserved : goal.loop-ix-preserved
loop-ix-preserved c =
    let t = c.args.graph.now in
    let n = c.loop-ix.ix in
    let old = c.loop-ix.links.items in
    let new = c.sort_part.new.links in
    let start = c.direct_links-range.result.start in
    let end = c.direct_links-range.result.end in
    let order = c.loop-ix.invariant.0 in
    let from : AreLinksFrom t.links n start end =
    subst (λ z. AreLinksFrom t.links z start end) c.package.ensures.number
    (subst (λ g. AreLinksFrom g.links (package_number_of c.package.result) start end) c.package.ensures.graph c.direct_links-range.ensures) in
    let sorted : IsPartSorted t start end old new = subst (λ z. IsPartSorted t start end z new) c.as_mut_slice.ensures.value c.in_ok-sort_part.ensures in
    let is = written_over new old c.loop-ix.links.len (long t start end old new sorted) c.loop-ix.links.ok.0 in (
      subst (AreByName t (n + 1)) (sym is) (next_sorted t start end old new sorted n from order),
      λ p name. ap (filter (is_link_under t p name)) is ∙ same_under t start end old new sorted p name ∙ c.loop-ix.invariant.1 p name,
    )
