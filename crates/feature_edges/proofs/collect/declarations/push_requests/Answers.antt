use Rattle.std.proofs.Common.{◌≡◌, ◌∙◌, ◌++◌, [], ap, sym, subst, arith, take, Some}
use Rattle.std.specs.Prelude.{slice_get, flat_map, codes}
use Rattle.guppy_packages.specs.Metadata.{link_number_of, link_table_of, package_table_of}
use Rattle.guppy_packages.specs.Stored.{declared}
use Rattle.feature_labels.specs.Names.LabelName.{base, named}
use Rattle.feature_edges.specs.Warnings.{lack_over, warnings_in}
use Rattle.feature_edges.specs.declared.collect.Collected.{Collected}
use Rattle.feature_edges.specs.declared.candidate.CandidateKind.TheVariants.{Section}
use Rattle.feature_edges.specs.inner.Adds.{Adds}
use Rattle.feature_edges.specs.inner.Collects.{Collects}
use Rattle.feature_edges.proofs.CollectLemmas.{nothing, collects-start, names-turn}
use Rattle.feature_edges.proofs.NodeLemmas.{append-none}
use Rattle.feature_edges.proofs.RequestLemmas.{listed, requested, found_adds, base_found, with_default, without_default, IsByDefault, IsFound, IsListed, IsToFound}
use Rattle.feature_edges.proofs.WarningLemmas.{added-all, lack_of_target}
use Rattle.feature_edges.proofs.collect.declarations.push_requests.Goals.{then-default_features+in_ok-push_to-2, else-default_features}
use Rattle.feature_edges.proofs.collect.declarations.push_requests.Goals as goal

pub loop-ix-init : goal.loop-ix-init
loop-ix-init c = collects-start (IsListed c.args.input.numbers.graph.now c.args.from (link_table_of c.args.link).to (link_number_of c.args.link) c.args.place (declared c.args.declaration.now)) c.if-default_features.collected

pub loop-ix-preserved : goal.loop-ix-preserved
loop-ix-preserved c =
    let t = c.args.input.numbers.graph.now in
    let link = link_table_of c.args.link in
    let d = declared c.args.declaration.now in
    let u = c.args.from in
    let k = link_number_of c.args.link in
    let j = c.args.place in
    let ix = c.loop-ix.ix in
    let g = c.feature-name.result.now in
    let table = package_table_of c.to-target.result in
    let before = c.loop-ix.collected in
    let at = c.feature-name.ensures in
    let target : slice_get t.packages link.to ≡ Some table = subst (λ z. slice_get z.packages link.to ≡ Some table) c.requires c.to-target.ensures.package in
    let found : IsFound t link.to (named g) c.named-to.result = subst (λ z. IsFound t z (named g) c.named-to.result) c.to-target.ensures.number c.named-to.ensures.node in
    names-turn (IsListed t u link.to k j d) (lack_over t link) d.features ix g c.if-default_features.collected before _ at c.loop-ix.invariant
    (record {
      keys = listed t u link.to k j d ix g c.named-to.result before.keys.items c.push_to-in-loop-ix.new.keys.items at found (subst (λ z. Adds (IsToFound u c.named-to.result Section z j) before.keys.items c.push_to-in-loop-ix.new.keys.items) c.link_ix-link_ix.ensures.number c.in_ok-push_to-3.ensures);
      of_items = nothing (warnings_in before.item_warnings);
      of_names = c.in_ok-push_lack.ensures ∙ ap (λ z. warnings_in before.name_warnings ++ z) (lack_of_target t g link table target);
    })

pub returns : goal.returns
returns c =
    let t = c.args.input.numbers.graph.now in
    let link = link_table_of c.args.link in
    let d = declared c.args.declaration.now in
    let u = c.args.from in
    let k = link_number_of c.args.link in
    let j = c.args.place in
    let start = c.args.collected.now in
    let first : Collected = record { keys = c.push_to.new.keys; item_warnings = start.item_warnings; name_warnings = start.name_warnings } in
    let second = c.if-default_features.collected in
    let after = c.loop-ix.collected in
    let all = c.loop-ix.invariant in
    let number = c.link_ix-link_ix.ensures.number in
    let to = c.to-target.ensures.number in
    let long = c.feature_count-ix-end.ensures in
    let to_base : IsFound t link.to base (Some c.base.result) = subst (λ z. IsFound t z base (Some c.base.result)) to (base_found t c.to-target.result.package_ix c.base.result c.base.ensures.number c.base.ensures.node) in
    let by_default : Collects (IsByDefault t u link.to k j d) [] [] first second = elim c.if-default_features.branch [
      | then-default_features+in_ok-push_to-2 w ↦ subst (λ z. Collects (IsByDefault t u link.to k j d) [] [] first z) (sym w.collected-is) (record {
        keys = with_default t u link.to k j d w.default_at-to.result first.keys.items w.push_to-then-default_features.new.keys.items (sym w.if-default_features.ensures)
            (subst (λ z. IsFound t z (named (codes "default")) w.default_at-to.result) to w.default_at-to.ensures)
            (subst (λ z. Adds (IsToFound u w.default_at-to.result Section z j) first.keys.items w.push_to-then-default_features.new.keys.items) number w.in_ok-push_to-2.ensures);
        of_items = nothing (warnings_in start.item_warnings);
        of_names = nothing (warnings_in start.name_warnings);
      })
      | else-default_features w ↦ subst (λ z. Collects (IsByDefault t u link.to k j d) [] [] first z) (sym w.collected-is) (record {
        keys = without_default t u link.to k j d first.keys.items (sym w.if-default_features.ensures);
        of_items = nothing (warnings_in start.item_warnings);
        of_names = nothing (warnings_in start.name_warnings);
      })
    ] in
    record {
      keys = requested t u link.to k j d c.loop-ix.ix start.keys.items first.keys.items second.keys.items after.keys.items (omega (arith, long))
          (found_adds t u link.to base Section k j (Some c.base.result) start.keys.items first.keys.items to_base (subst (λ z. Adds (IsToFound u (Some c.base.result) Section z j) start.keys.items first.keys.items) number c.in_ok-push_to.ensures))
          by_default.keys all.keys;
      of_items = all.of_items ∙ append-none (warnings_in second.item_warnings) ∙ by_default.of_items;
      of_names = added-all (lack_over t link) d.features c.loop-ix.ix (warnings_in start.name_warnings) (warnings_in after.name_warnings) (omega (arith, long))
          (all.of_names ∙ ap (λ z. z ++ flat_map (lack_over t link) (take c.loop-ix.ix d.features)) (by_default.of_names ∙ append-none (warnings_in start.name_warnings)));
    }
