use Rattle.std.proofs.Common.{◌≡◌, ◌<◌, ◌∙◌, length, ap, arith, sym, true, false}
use Rattle.feature_graph.specs.Packages.{has_member_of}
use Rattle.feature_graph.proofs.RangeLemmas.{from_found, from_passed}
use Rattle.feature_graph.proofs.set.FeatureSet.package_count.Goals.{then-has_member_of, else-has_member_of}
use Rattle.feature_graph.proofs.set.FeatureSet.package_count.Goals as goal

pub packages-preserved : goal.packages-preserved
packages-preserved c =
    let t = c.args.self.now.graph.tables in
    let m = c.args.self.now.members in
    let count : c.package_count-count.result ≡ length t.packages = c.package_count-count.ensures ∙ ap (λ z. length z.packages) (c.package_graph.ensures ∙ ap (λ s. s.graph.tables) c.self.view_is) in
    let below : c.packages.package_ix < length t.packages = omega (arith, count, c.packages-test.true) in
    elim c.if-has_member_of.branch [
      | then-has_member_of w ↦
          let is : has_member_of t m c.packages.package_ix ≡ true = sym c.has_member_of.ensures ∙ w.if-has_member_of.true in
          let step = ap length (from_found t m c.packages.package_ix below is) in
          record {
            within = omega (arith, c.packages.invariant.within, w.found-is);
            counted = omega (arith, c.packages.invariant.counted, step, w.found-is);
          }
      | else-has_member_of w ↦
          let is : has_member_of t m c.packages.package_ix ≡ false = sym c.has_member_of.ensures ∙ w.if-has_member_of.false in
          let step = ap length (from_passed t m c.packages.package_ix below is) in
          record {
            within = omega (arith, c.packages.invariant.within, w.found-is);
            counted = omega (arith, c.packages.invariant.counted, step, w.found-is);
          }
    ]
