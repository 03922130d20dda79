use Rattle.std.proofs.Common.{◌<◌, ◌∙◌, length, sym}
use Rattle.std.proofs.lemmas.List.Elements.{All-rest}
use Rattle.feature_graph.proofs.PackageViewLemmas.{passed_package}
use Rattle.feature_graph.proofs.set.FeatureSet.next_member.Goals as goal

pub returns-then-has_member_of-clause-within : goal.returns-then-has_member_of-clause-within
returns-then-has_member_of-clause-within c = All-rest (λ p. p < length c.args.self.now.graph.tables.packages) c.in-Some.package_ix c.next.new.self c.loop-package_ix.numbers c.in-Some.ensures.steps c.loop-package_ix.invariant.within

pub loop-package_ix-preserved : goal.loop-package_ix-preserved
loop-package_ix-preserved c =
    let none = sym c.has_member_of.ensures ∙ c.if-has_member_of.false in
    record {
      within = All-rest (λ p. p < length c.args.self.now.graph.tables.packages) c.in-Some.package_ix c.next.new.self c.loop-package_ix.numbers c.in-Some.ensures.steps c.loop-package_ix.invariant.within;
      left = passed_package c.args.self.now c.in-Some.package_ix c.next.new.self c.loop-package_ix.numbers c.in-Some.ensures.steps none ∙ c.loop-package_ix.invariant.left;
    }
