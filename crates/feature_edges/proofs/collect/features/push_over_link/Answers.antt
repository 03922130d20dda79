use Rattle.std.proofs.Common.{◌≡◌, ◌∙◌, ◌++◌, ap, subst, Some, ℕ}
use Rattle.std.specs.Prelude.{slice_get, ◌↔◌}
use Rattle.std.proofs.lemmas.Result.{on_ok_weaker}
use Rattle.guppy_packages.specs.Metadata.{link_table_of, package_table_of}
use Rattle.feature_labels.specs.Names.LabelName.{named}
use Rattle.feature_edges.specs.Nodes.{NodeAt}
use Rattle.feature_edges.specs.Warnings.{warnings_in}
use Rattle.feature_edges.proofs.CollectLemmas.{nothing}
use Rattle.feature_edges.proofs.PushLemmas.{link_pushed, pushed_to}
use Rattle.feature_edges.proofs.WarningLemmas.{lack_at, lack_of_target}
use Rattle.feature_edges.proofs.collect.features.push_over_link.Goals as goal

pub returns : goal.returns
returns c =
    let t = c.args.input.numbers.graph.now in
    let link = link_table_of c.link-link.result in
    let table = package_table_of c.to-target.result in
    let g = c.args.feature.now in
    let k = c.args.ix in
    let before = c.args.collected.now in
    let told : (n : ℕ) → (c.named-to.result ≡ Some n) ↔ NodeAt t n link.to (named g) = λ n. subst (λ z. (c.named-to.result ≡ Some n) ↔ NodeAt t n z (named g)) c.to-target.ensures.number (c.named-to.ensures.node n) in
    let at : slice_get t.packages link.to ≡ Some table = subst (λ z. slice_get z.packages link.to ≡ Some table) c.link-link.ensures.graph c.to-target.ensures.package in
    on_ok_weaker c.push_lack.result
    (λ lacks. record {
      keys = link_pushed t c.args.from k c.kind_over.result g c.args.weak link before.keys.items c.push_to.new.keys.items c.link-link.ensures.link c.kind_over.ensures
          (pushed_to t c.args.from link.to c.kind_over.result k 0 (named g) c.named-to.result before.keys.items c.push_to.new.keys.items told c.in_ok-push_to.ensures);
      of_items = lacks ∙ ap (λ z. warnings_in before.item_warnings ++ z) (lack_of_target t g link table at ∙ lack_at t g k link c.link-link.ensures.link);
      of_names = nothing (warnings_in before.name_warnings);
    })
    c.push_lack.ensures
