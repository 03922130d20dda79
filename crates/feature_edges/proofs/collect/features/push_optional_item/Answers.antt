use Rattle.std.proofs.lemmas.Result.{on_ok_weaker}
use Rattle.feature_labels.specs.Names.LabelName.{optional}
use Rattle.feature_edges.specs.declared.candidate.CandidateKind.TheVariants.{DepColon}
use Rattle.feature_edges.specs.Warnings.{warnings_in}
use Rattle.feature_edges.proofs.CollectLemmas.{nothing}
use Rattle.feature_edges.proofs.PushLemmas.{pushed_to}
use Rattle.feature_edges.proofs.collect.features.push_optional_item.Goals as goal

pub returns : goal.returns
returns c f =
    let before = c.args.collected.now in
    on_ok_weaker c.push_lack_of_dependency.result
    (λ told. record {
      keys = pushed_to c.args.input.numbers.graph.now c.args.from c.args.input.metadata.package_ix DepColon 0 0 (optional c.args.name.now) c.optional-to.result before.keys.items c.push_to.new.keys.items (λ n. c.optional-to.ensures.node n) c.in_ok-push_to.ensures;
      of_items = told;
      of_names = nothing (warnings_in before.name_warnings);
    })
    c.push_lack_of_dependency.ensures
