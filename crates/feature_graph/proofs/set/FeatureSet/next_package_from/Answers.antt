use Rattle.std.proofs.Common.{◌≡◌, ◌<◌, ◌≤◌, ◌^◌, ◌∙◌, length, ap, arith, true, false}
use Rattle.feature_graph.specs.Packages.{has_member_of}
use Rattle.feature_graph.proofs.RangeLemmas.{from_found, from_passed, from_past}
use Rattle.feature_graph.proofs.set.FeatureSet.next_package_from.Goals as goal

pub packages-preserved : goal.packages-preserved
packages-preserved c =
    let t = c.args.self.now.graph.tables in
    let count : c.package_count-count.result ≡ length t.packages = c.package_count-count.ensures ∙ ap (λ z. length z.packages) (c.package_graph.ensures ∙ ap (λ s. s.graph.tables) c.self.view_is) in
    let within : c.packages.package_ix < length t.packages = omega (arith, count, c.packages-test.true) in
    let is : has_member_of t c.args.self.now.members c.packages.package_ix ≡ false = cc in
    c.packages.invariant ∙ from_passed t c.args.self.now.members c.packages.package_ix within is

pub returns-then-has_member_of-clause-fits : goal.returns-then-has_member_of-clause-fits
returns-then-has_member_of-clause-fits c =
    let t = c.args.self.now.graph.tables in
    let count : c.package_count-count.result ≡ length t.packages = c.package_count-count.ensures ∙ ap (λ z. length z.packages) (c.package_graph.ensures ∙ ap (λ s. s.graph.tables) c.self.view_is) in
    let fits : c.package_count-count.result < 2 ^ 64 = omega arith in
    omega (arith, count, fits)

pub returns-then-has_member_of-clause-least : goal.returns-then-has_member_of-clause-least
returns-then-has_member_of-clause-least c =
    let t = c.args.self.now.graph.tables in
    let count : c.package_count-count.result ≡ length t.packages = c.package_count-count.ensures ∙ ap (λ z. length z.packages) (c.package_graph.ensures ∙ ap (λ s. s.graph.tables) c.self.view_is) in
    let within : c.packages.package_ix < length t.packages = omega (arith, count, c.packages-test.true) in
    let is : has_member_of t c.args.self.now.members c.packages.package_ix ≡ true = cc in
    (c.packages.auto.package_ix, within, c.packages.invariant ∙ from_found t c.args.self.now.members c.packages.package_ix within is)

pub returns-clause-fits : goal.returns-clause-fits
returns-clause-fits c =
    let t = c.args.self.now.graph.tables in
    let count : c.package_count-count.result ≡ length t.packages = c.package_count-count.ensures ∙ ap (λ z. length z.packages) (c.package_graph.ensures ∙ ap (λ s. s.graph.tables) c.self.view_is) in
    let fits : c.package_count-count.result < 2 ^ 64 = omega arith in
    omega (arith, count, fits)

pub returns-clause-least : goal.returns-clause-least
returns-clause-least c =
    let t = c.args.self.now.graph.tables in
    let count : c.package_count-count.result ≡ length t.packages = c.package_count-count.ensures ∙ ap (λ z. length z.packages) (c.package_graph.ensures ∙ ap (λ s. s.graph.tables) c.self.view_is) in
    let past : length t.packages ≤ c.packages.package_ix = omega (arith, count, c.packages-test.false) in
    c.packages.invariant ∙ from_past t c.args.self.now.members c.packages.package_ix past
