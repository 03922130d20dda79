use Rattle.std.proofs.Common.{◌≡◌, ◌∙◌, ◌+◌, ◌++◌, ◌∷◌, [], ap, map, take, sym, subst, inl, inr, arith}
use Rattle.std.proofs.lemmas.List.{map-append, take_all}
use Rattle.std.proofs.lemmas.Option.{MatchOption-at_none, MatchOption-at_some}
use Rattle.guppy_features.specs.feature_labels.Names.{id_of}
use Rattle.guppy_features.specs.Platforms.{platform_offers}
use Rattle.guppy_features.specs.PlatformViews.{kinds_of, specs_of}
use Rattle.guppy_features.specs.feature_graph.Values.{Set}
use Rattle.uses.specs.Linted.{IsCleared, IsNamed, finding_name}
use Rattle.uses.proofs.Linted.{AreCleared, cleared_more, named_grows, named_last, off}
use Rattle.uses.proofs.linter.findings.Goals as goal
use Rattle.uses.proofs.linter.findings.Goals.{in-Some+in_ok-push, in_default}

pub examined-requires : goal.examined-requires
examined-requires c = c.graph-graph.ensures.value ∙ ap (λ (s : Set). s.graph) c.initials.ensures ∙ sym c.in_ok-explained.ensures.graph

pub loop-id-preserved : goal.loop-id-preserved
loop-id-preserved c =
    let q = c.args.query in
    let A = platform_offers (kinds_of c.args.platform) (specs_of c.args.platform) q.graph in
    let ids = c.args.forbidden.now in
    let i = c.loop-id.id-index in
    let id = c.id-item.result in
    let x = c.in_ok-explained.explained in
    let e = c.in_ok-explained.ensures in
    let named = map finding_name c.loop-id.found.items in
    elim c.match-branch-3.branch [
      | in-Some+in_ok-push w ↦
          let one = w.in-Some.one in
          let more : map finding_name c.match-branch-3.found.items ≡ named ++ finding_name one ∷ [] = ap (λ v. map finding_name v.items) w.found-is ∙ ap (map finding_name) w.in_ok-push.ensures.items ∙ map-append finding_name c.loop-id.found.items (one ∷ []) in
          let is : finding_name one ≡ id_of id = MatchOption-at_some _ _ one w.in-Some.is c.in_ok-one.ensures in
          subst (λ l. AreCleared q A l (take (i + 1) ids)) (sym more)
          (cleared_more q A named (named ++ finding_name one ∷ []) ids i id (omega (arith, c.loop-id-test.true)) (λ name h. named_grows named (finding_name one) name h) c.loop-id.invariant
          (inl (subst (λ z. IsNamed (named ++ finding_name one ∷ []) (id_of z)) c.id-item.is (subst (IsNamed (named ++ finding_name one ∷ [])) is (named_last named (finding_name one))))))
      | in_default w ↦
          let none = MatchOption-at_none _ _ w.in_default.is c.in_ok-one.ensures in
          subst (λ v. AreCleared q A (map finding_name v.items) (take (i + 1) ids)) (sym w.found-is)
          (cleared_more q A named named ids i id (omega (arith, c.loop-id-test.true)) (λ name h. h) c.loop-id.invariant
          (subst (λ z. IsCleared q A named (id_of z)) c.id-item.is (inr (off q A x (id_of id) e.graph e.least none))))
    ]

pub returns : goal.returns
returns c =
    let q = c.args.query in
    let A = platform_offers (kinds_of c.args.platform) (specs_of c.args.platform) q.graph in
    let ids = c.args.forbidden.now in
    subst (AreCleared q A (map finding_name c.loop-id.found.items)) (take_all c.loop-id.id-index ids (omega (arith, c.loop-id-test.false))) c.loop-id.invariant
