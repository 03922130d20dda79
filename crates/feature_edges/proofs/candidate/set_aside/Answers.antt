use Rattle.std.proofs.Common.{◌≡◌, ◌≤◌, ◌-◌, ◌∙◌, ◌++◌, ap, arith, drop, length, subst, sym, take, AllPairs}
use Rattle.std.specs.Prelude.{Contains}
use Rattle.std.proofs.lemmas.List.{take_all, length-drop}
use Rattle.feature_edges.specs.inner.Keys.{IsNoLater}
use Rattle.feature_edges.proofs.KeyRuns.{pairs_take, pairs_drop}
use Rattle.feature_edges.proofs.candidate.set_aside.Goals as goal

pub place_from-count-requires : goal.place_from-count-requires
place_from-count-requires c = subst (AllPairs IsNoLater) (sym c.as_slice.ensures.value) c.requires

pub returns-clause-front : goal.returns-clause-front
returns-clause-front c x h = c.place_from-count.ensures.front x (subst (λ z. Contains z x) (c.truncate.ensures.items ∙ ap (take c.place_from-count.result) (sym c.as_slice.ensures.value)) h)

pub returns-clause-ordered : goal.returns-clause-ordered
returns-clause-ordered c = subst (AllPairs IsNoLater) (sym c.truncate.ensures.items) (pairs_take IsNoLater c.place_from-count.result c.args.keys.now.items (subst (λ z. c.place_from-count.result ≤ length z) c.as_slice.ensures.value c.place_from-count.ensures.within) c.requires)

pub returns-clause-later_ordered : goal.returns-clause-later_ordered
returns-clause-later_ordered c =
    let n = c.place_from-count.result in
    let is : c.extend_from_slice.new.self.items ≡ drop n c.args.keys.now.items = c.in_ok-extend_from_slice.ensures.items ∙ ap (λ z. z ++ take (length c.deref.result.now - n) (drop n c.deref.result.now)) c.clear.ensures.items ∙ take_all (length c.deref.result.now - n) (drop n c.deref.result.now) (omega (arith, length-drop n c.deref.result.now)) ∙ ap (drop n) c.deref.ensures.value in
    subst (AllPairs IsNoLater) (sym is) (pairs_drop IsNoLater n c.args.keys.now.items c.requires)

pub returns-clause-back : goal.returns-clause-back
returns-clause-back c x h =
    let n = c.place_from-count.result in
    let is : c.extend_from_slice.new.self.items ≡ drop n c.args.keys.now.items = c.in_ok-extend_from_slice.ensures.items ∙ ap (λ z. z ++ take (length c.deref.result.now - n) (drop n c.deref.result.now)) c.clear.ensures.items ∙ take_all (length c.deref.result.now - n) (drop n c.deref.result.now) (omega (arith, length-drop n c.deref.result.now)) ∙ ap (drop n) c.deref.ensures.value in
    c.place_from-count.ensures.back x (subst (λ z. Contains z x) (is ∙ ap (drop n) (sym c.as_slice.ensures.value)) h)
