use Rattle.std.proofs.Common.{◌∙◌, ◌++◌, ap, if◌then◌else◌, [], ◌∷◌}
use Rattle.std.proofs.lemmas.Result.{on_ok_weaker}
use Rattle.guppy_packages.specs.Metadata.{package_table_of}
use Rattle.feature_labels.specs.Names.LabelName.{named}
use Rattle.feature_edges.specs.declared.candidate.CandidateKind.TheVariants.{NamedFeature}
use Rattle.feature_edges.specs.Warnings.{warnings_in, self_loop, lack_of}
use Rattle.feature_edges.proofs.CollectLemmas.{nothing}
use Rattle.feature_edges.proofs.PushLemmas.{pushed_to, same_feature, other_feature, texts_apart, texts_equal}
use Rattle.feature_edges.proofs.collect.features.push_feature_item.Goals as goal

pub returns-then-eq : goal.returns-then-eq
returns-then-eq c =
    let t = c.args.input.numbers.graph.now in
    let p = c.args.input.metadata.package_ix in
    let table = package_table_of c.args.input.metadata in
    let f = c.args.feature_name.now in
    let g = c.args.feature.now in
    let before = c.args.collected.now in
    on_ok_weaker c.push_self_loop.result
    (λ told. record {
      keys = same_feature t c.args.from p f g before.keys.items (texts_equal g f c.if-eq.ensures);
      of_items = told ∙ ap (λ b. warnings_in before.item_warnings ++ (if b then self_loop table.id f ∷ [] else lack_of table g)) c.if-eq.ensures;
      of_names = nothing (warnings_in before.name_warnings);
    })
    c.push_self_loop.ensures

pub returns : goal.returns
returns c =
    let t = c.args.input.numbers.graph.now in
    let p = c.args.input.metadata.package_ix in
    let table = package_table_of c.args.input.metadata in
    let f = c.args.feature_name.now in
    let g = c.args.feature.now in
    let before = c.args.collected.now in
    on_ok_weaker c.push_lack.result
    (λ told. record {
      keys = other_feature t c.args.from p f g before.keys.items c.push_to.new.keys.items (texts_apart g f c.if-eq.ensures)
          (pushed_to t c.args.from p NamedFeature 0 0 (named g) c.named-to.result before.keys.items c.push_to.new.keys.items (λ n. c.named-to.ensures.node n) c.in_ok-push_to.ensures);
      of_items = told ∙ ap (λ b. warnings_in before.item_warnings ++ (if b then self_loop table.id f ∷ [] else lack_of table g)) c.if-eq.ensures;
      of_names = nothing (warnings_in before.name_warnings);
    })
    c.push_lack.ensures
