use Rattle.std.proofs.Common.{◌≡◌, ◌<◌, ◌∙◌, length, ap, arith}
use Rattle.feature_graph.proofs.PackageSetLemmas.{marked_none, marked_more, marked_all}
use Rattle.feature_graph.proofs.set.FeatureSet.package_numbers.Goals as goal

pub packages-init : goal.packages-init
packages-init c =
    let t = c.args.self.now.graph.tables in
    let count : c.package_count-count.result ≡ length t.packages = c.package_count-count.ensures ∙ ap (λ z. length z.packages) (c.package_graph.ensures ∙ ap (λ s. s.graph.tables) c.self.view_is) in
    marked_none t c.args.self.now.members c.package_count-count.result c.in_ok-packages.packages count c.in_ok-packages.ensures

pub has_member_of-requires : goal.has_member_of-requires
has_member_of-requires c =
    let t = c.args.self.now.graph.tables in
    let count : c.package_count-count.result ≡ length t.packages = c.package_count-count.ensures ∙ ap (λ z. length z.packages) (c.package_graph.ensures ∙ ap (λ s. s.graph.tables) c.self.view_is) in
    let below : c.packages.package_ix < length t.packages = omega (arith, count, c.packages-test.true) in
    below

pub put-requires : goal.put-requires
put-requires c =
    let t = c.args.self.now.graph.tables in
    let count : c.package_count-count.result ≡ length t.packages = c.package_count-count.ensures ∙ ap (λ z. length z.packages) (c.package_graph.ensures ∙ ap (λ s. s.graph.tables) c.self.view_is) in
    omega (arith, count, c.packages-test.true, c.packages.invariant.size)

pub packages-preserved : goal.packages-preserved
packages-preserved c =
    marked_more c.args.self.now.graph.tables c.args.self.now.members c.packages.package_ix c.has_member_of.result c.packages.packages c.put.new.members c.has_member_of.ensures c.put.ensures c.packages.invariant

pub returns : goal.returns
returns c =
    let t = c.args.self.now.graph.tables in
    let count : c.package_count-count.result ≡ length t.packages = c.package_count-count.ensures ∙ ap (λ z. length z.packages) (c.package_graph.ensures ∙ ap (λ s. s.graph.tables) c.self.view_is) in
    marked_all t c.args.self.now.members c.packages.package_ix c.packages.packages (omega (arith, count, c.packages-test.false, c.packages.auto.package_ix-end)) c.packages.invariant
