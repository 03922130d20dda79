use Rattle.std.proofs.Common.{◌≡◌, ◌+◌, ◌∙◌, ap, refl, sym, map, take, length, arith, subst, Some}
use Rattle.std.specs.Prelude.{slice_get}
use Rattle.std.specs.Option.{option_map}
use Rattle.std.proofs.lemmas.List.{length-map, take_all}
use Rattle.std.proofs.lemmas.Option.{none-some, slice_get-map, slice_get_read}
use Rattle.guppy_packages.specs.declared.direction.DependencyDirection.TheVariants.{Forward}
use Rattle.feature_graph.specs.Explained.{AreRefused}
use Rattle.feature_graph.specs.Told.{offer_name}
use Rattle.feature_graph.specs.Views.{graph_of}
use Rattle.feature_graph.proofs.NumberedLemmas.{offer_forward, refused_none, refused_some}
use Rattle.feature_graph.proofs.explain.from_ids.numbered_offers.Goals as goal
use Rattle.feature_graph.proofs.explain.from_ids.numbered_offers.Goals.{in-Some+in_ok-push, in_default}

pub loop-from-preserved : goal.loop-from-preserved
loop-from-preserved c =
    let g = graph_of c.args.graph in
    let told = c.args.told.now in
    let i = c.loop-from.from-index in
    let item = c.loop-from-item.result in
    let at : slice_get (map offer_name told) i ≡ Some (offer_name item) = slice_get-map offer_name told i ∙ ap (option_map offer_name) (slice_get_read told (length told) i item refl (omega (arith, c.loop-from-test.true)) c.loop-from-item.is) in
    elim c.match-offer_number.branch [
      | in-Some+in_ok-push w ↦
          refused_some g (map offer_name told) i (offer_name item) c.loop-from.offers.items c.match-offer_number.offers.items w.in-Some.offer at (ap (λ v. v.items) w.offers-is ∙ w.in_ok-push.ensures.items) w.in-Some.ensures c.loop-from.invariant
      | in_default w ↦
          subst (λ v. AreRefused g Forward (take (i + 1) (map offer_name told)) v.items) (sym w.offers-is)
          (refused_none g (map offer_name told) i (offer_name item) c.loop-from.offers.items at (λ e h one. none-some (e, h) (sym w.in_default.is ∙ (c.offer_number.ensures e h).1 one)) c.loop-from.invariant)
    ]

pub returns : goal.returns
returns c direction e h offer =
    let g = graph_of c.args.graph in
    let names = map offer_name c.args.told.now in
    let all : take c.loop-from.from-index names ≡ names = take_all c.loop-from.from-index names (omega (arith, c.loop-from-test.false, length-map c.args.told.now offer_name)) in
    subst (λ l. AreRefused g Forward l c.loop-from.offers.items) all c.loop-from.invariant e h (offer_forward direction g.built e h offer)
