use Rattle.std.proofs.Common.{◌≡◌, ◌∙◌, ◌↔◌, arith, length, ap, sym, subst}
use Rattle.std.specs.Prelude.{IsTrue}
use Rattle.digraphs.specs.Bits.{has}
use Rattle.feature_core.specs.Defaults.{IsDefault}
use Rattle.feature_core.proofs.data.FeatureGraphData.is_default.Goals as goal

pub contains-requires : goal.contains-requires
contains-requires c =
    let packages : length c.self.inside.table.packages.items ≡ length c.args.self.now.packages = ap (λ b. length b.packages) c.self.view_is in
    omega (arith, c.requires, packages, c.self.invariant.4)

pub returns-clause-mark : goal.returns-clause-mark
returns-clause-mark c = c.contains.ensures ∙ ap (λ b. has b.defaults c.args.ix) c.self.view_is

pub returns-clause-meaning : goal.returns-clause-meaning
returns-clause-meaning c t built =
    let mark : has c.args.self.now.defaults c.args.ix ≡ c.contains.result = sym (c.contains.ensures ∙ ap (λ b. has b.defaults c.args.ix) c.self.view_is) in
    subst (λ z. IsTrue z ↔ IsDefault t c.args.ix) mark (built.defaults.exact c.args.ix)
