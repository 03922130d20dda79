use Rattle.std.proofs.Common.{◌≡◌, ◌∙◌, ap, refl, map, length, arith, Some}
use Rattle.std.specs.Prelude.{slice_get}
use Rattle.std.specs.Option.{option_map}
use Rattle.std.proofs.lemmas.Option.{none-some, slice_get-map, slice_get_read}
use Rattle.feature_graph.specs.Told.{step_name}
use Rattle.feature_graph.specs.Views.{graph_of}
use Rattle.feature_graph.proofs.NumberedLemmas.{numbered_at, numbered_more, only_more}
use Rattle.feature_graph.proofs.explain.from_ids.numbered_steps.Goals as goal

pub returns-in-None : goal.returns-in-None
returns-in-None c numbers =
    let g = graph_of c.args.graph in
    let told = c.args.told.now in
    let i = c.loop-id.id-index in
    let item = c.loop-id-item.result in
    let at : slice_get (map step_name told) i ≡ Some (step_name item) = slice_get-map step_name told i ∙ ap (option_map step_name) (slice_get_read told (length told) i item refl (omega (arith, c.loop-id-test.true)) c.loop-id-item.is) in (
      (λ is. absurd (none-some numbers is)),
      (λ h. let found = numbered_at g (map step_name told) numbers i (step_name item) h at in absurd (none-some found.0 ((c.in-None.ensures found.0).1 found.1))),
    )

pub loop-id-preserved : goal.loop-id-preserved
loop-id-preserved c =
    let g = graph_of c.args.graph in
    let told = c.args.told.now in
    let i = c.loop-id.id-index in
    let item = c.loop-id-item.result in
    let step = c.in-Some.step in
    let at : slice_get (map step_name told) i ≡ Some (step_name item) = slice_get-map step_name told i ∙ ap (option_map step_name) (slice_get_read told (length told) i item refl (omega (arith, c.loop-id-test.true)) c.loop-id-item.is) in
    record {
      numbered = numbered_more g (map step_name told) c.loop-id.steps.items c.push.new.self.items i (step_name item) step at c.in_ok-push-in-Some.ensures.items c.loop-id.invariant.numbered ((c.in-Some.ensures step).0 refl);
      only = only_more g (map step_name told) c.loop-id.steps.items c.push.new.self.items i (step_name item) step at c.in_ok-push-in-Some.ensures.items c.loop-id.invariant.only (λ other one. (c.in-Some.ensures other).1 one);
    }
