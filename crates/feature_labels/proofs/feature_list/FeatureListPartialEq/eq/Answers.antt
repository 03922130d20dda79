use Rattle.std.proofs.Common.{◌≡◌, ◌↔◌, ◌∙◌, IsTrue, ap, nat_eq, sym, true}
use Rattle.std.specs.Cmp.Lexicographic.{pointwise}
use Rattle.feature_labels.specs.Orders.{list_eq}
use Rattle.feature_labels.proofs.OrderLemmas.{list_eq-Decides}
use Rattle.feature_labels.proofs.Derived.{list_eq-derived}
use Rattle.feature_labels.proofs.feature_list.FeatureListPartialEq.eq.Goals as goal

value : (c : goal.After-eq-then-eq) → c.eq-then-eq.result ≡ list_eq c.args.self.now c.args.other.now
value c =
    let from : c.id.result.now ≡ c.args.self.now.package_id = c.id.ensures ∙ ap (λ list. list.package_id) c.self.view_is in
    let to : c.id-2.result.now ≡ c.args.other.now.package_id = c.id-2.ensures ∙ ap (λ list. list.package_id) c.other.view_is in
    let one : true ≡ pointwise nat_eq c.args.self.now.package_id c.args.other.now.package_id = rw (← from, ← to) (sym c.if-eq.true ∙ c.eq.ensures) in
    list_eq-derived c.self.inside.labels.items c.other.inside.labels.items c.args.self.now c.args.other.now c.eq-then-eq.result (ap (λ list. list.labels) c.self.view_is) (ap (λ list. list.labels) c.other.view_is) one c.eq-then-eq.ensures

pub returns-then-eq-clause-value : goal.returns-then-eq-clause-value
returns-then-eq-clause-value c = value c

pub returns-then-eq-clause-same : goal.returns-then-eq-clause-same
returns-then-eq-clause-same c =
    let answer : IsTrue c.eq-then-eq.result ↔ ((c.args.self.now.package_id ≡ c.args.other.now.package_id) × (c.args.self.now.labels ≡ c.args.other.now.labels)) = rw (value c) (list_eq-Decides c.args.self.now c.args.other.now) in
    answer
