use Rattle.std.proofs.Common.{◌≡◌, ◌∙◌, ap, sym, refl, get_or, length, map}
use Rattle.std.specs.Prelude.{Some, None, option_map, slice_get}
use Rattle.std.proofs.lemmas.Bool.{ltb-false}
use Rattle.std.proofs.lemmas.List.{take_all}
use Rattle.std.proofs.lemmas.Option.{slice_get-map, slice_get_past, slice_get_read}
use Rattle.workspace_documents.specs.Dependencies.{pick}
use Rattle.workspace_documents.specs.Names.{at_places}
use Rattle.workspace_documents.specs.inner.Picks.{and_one, answers, found_view, meets}
use Rattle.workspace_documents.specs.Views.{declaration_view, dep_view, package_view}
use Rattle.workspace_documents.proofs.Picks.{pick_past, pick_step}
use Rattle.workspace_documents.proofs.dependencies.pick.Goals as goal
use Rattle.workspace_documents.proofs.dependencies.pick.Goals.{in-Some+in_ok-found, in_default}

pub loop-place-init : goal.loop-place-init
unfolding pick
loop-place-init c = refl

pub loop-place-preserved : goal.loop-place-preserved
loop-place-preserved c =
    let deps = c.args.deps.now in
    let places = c.args.places.now in
    let n = get_or places c.loop-place.place-index 0 in
    let d = declaration_view c.args.declaration.now in
    elim c.match-get.branch [
      | in-Some+in_ok-found w ↦
          let dep = w.in-Some.dep.now in
          let there : slice_get (map dep_view deps) n ≡ Some (dep_view dep) = slice_get-map dep_view deps n ∙ ap (option_map dep_view) (slice_get_read deps (length deps) n dep refl w.in-Some.ensures.lookup.3.0 w.in-Some.ensures.lookup.1) in
          ap found_view w.found-is ∙ w.in_ok-found.ensures
          ∙ ap (λ f. and_one (meets c.args.asked c.args.owner.now d (dep_view dep)) f (package_view dep.target.now)) c.loop-place.invariant
          ∙ pick_step c.args.asked c.args.owner.now d (map dep_view deps) places c.loop-place.place-index (dep_view dep) c.loop-place-test.true there
      | in_default w ↦
          let past : slice_get (map dep_view deps) n ≡ None = slice_get-map dep_view deps n ∙ ap (option_map dep_view) (slice_get_past deps n (ltb-false n (length deps) (sym w.in_default.ensures.lookup.0))) in
          ap found_view w.found-is ∙ c.loop-place.invariant ∙ pick_past c.args.asked c.args.owner.now d (map dep_view deps) places c.loop-place.place-index c.loop-place-test.true past
    ]

pub returns : goal.returns
returns c = c.loop-place.invariant ∙ ap (λ places. pick (answers c.args.asked) c.args.owner.now (declaration_view c.args.declaration.now) (at_places (map dep_view c.args.deps.now) places)) (take_all c.loop-place.place-index c.args.places.now c.loop-place-test.false)
