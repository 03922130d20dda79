use Rattle.std.proofs.Common.{◌≡◌, ◌≤◌, ◌<◌, ◌+◌, ◌++◌, ◌∙◌, [], ap, arith, subst, sym}
use Rattle.std.specs.Prelude.{flat_map, Contains}
use Rattle.guppy_packages.specs.Metadata.{package_table_of}
use Rattle.feature_links.specs.Links.{IsPackage}
use Rattle.feature_edges.specs.declared.candidate.Key.{Key}
use Rattle.feature_edges.specs.Nodes.{first_node}
use Rattle.feature_edges.specs.Warnings.{of_link, warnings_in}
use Rattle.feature_edges.specs.inner.Adds.{Adds}
use Rattle.feature_edges.specs.inner.Collects.{links_from}
use Rattle.feature_edges.specs.inner.Made.{AreFrom}
use Rattle.feature_edges.specs.inner.Parts.{IsAround}
use Rattle.feature_edges.proofs.NodeKeys.{base_keys, optional_keys}
use Rattle.feature_edges.proofs.PackageWarnings.{count_of}
use Rattle.feature_edges.proofs.collect.features.collect_around.Goals as goal

pub returns-clause-base : goal.returns-clause-base
returns-clause-base c =
    let t = c.args.material.numbers.graph.now in
    let p = c.args.ix in
    let table = package_table_of c.package.result in
    let is : IsPackage t p table = c.package.ensures.package in
    let a = c.set_aside.new.keys.items in
    let b = c.set_aside.new.later.items in
    let first : c.base-base.result ≡ first_node t p = c.base-base.ensures.number ∙ ap (first_node t) c.package.ensures.number in
    let around : Adds (IsAround t p table) [] c.push_around.new.collected.keys.items = subst (λ z. Adds (IsAround t z table) [] c.push_around.new.collected.keys.items) c.package.ensures.number c.in_ok-push_around.ensures.keys in
    let all : Adds (IsAround t p table) [] (a ++ b) = subst (λ z. Adds (IsAround t p table) [] z) c.in_ok-set_aside.ensures.whole around in
    let front : (x : Key) → Contains a x → x.from < first_node t p + 1 = λ x h. omega (arith, first, c.in_ok-set_aside.ensures.front x h) in
    let back : (x : Key) → Contains b x → first_node t p + 1 ≤ x.from = λ x h. omega (arith, first, c.in_ok-set_aside.ensures.back x h) in
    base_keys t p table is a b all front back

pub returns-clause-later : goal.returns-clause-later
returns-clause-later c =
    let t = c.args.material.numbers.graph.now in
    let p = c.args.ix in
    let table = package_table_of c.package.result in
    let is : IsPackage t p table = c.package.ensures.package in
    let a = c.set_aside.new.keys.items in
    let b = c.set_aside.new.later.items in
    let first : c.base-base.result ≡ first_node t p = c.base-base.ensures.number ∙ ap (first_node t) c.package.ensures.number in
    let around : Adds (IsAround t p table) [] c.push_around.new.collected.keys.items = subst (λ z. Adds (IsAround t z table) [] c.push_around.new.collected.keys.items) c.package.ensures.number c.in_ok-push_around.ensures.keys in
    let all : Adds (IsAround t p table) [] (a ++ b) = subst (λ z. Adds (IsAround t p table) [] z) c.in_ok-set_aside.ensures.whole around in
    let front : (x : Key) → Contains a x → x.from < first_node t p + 1 = λ x h. omega (arith, first, c.in_ok-set_aside.ensures.front x h) in
    let back : (x : Key) → Contains b x → first_node t p + 1 ≤ x.from = λ x h. omega (arith, first, c.in_ok-set_aside.ensures.back x h) in
    subst (λ z. AreFrom t (first_node t p + 1 + z) (first_node t (p + 1)) b) (sym (count_of t p table is)) (optional_keys t p table is a b all front back)

pub returns-clause-names : goal.returns-clause-names
returns-clause-names c =
    let t = c.args.material.numbers.graph.now in
    c.in_ok-push_around.ensures.names ∙ ap (λ z. warnings_in c.args.collected.now.name_warnings ++ flat_map (of_link t) (links_from t z)) c.package.ensures.number
