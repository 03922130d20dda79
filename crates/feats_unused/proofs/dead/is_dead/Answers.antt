use Rattle.std.proofs.Common.{◌∙◌, Bool, ap, not, sym}
use Rattle.guppy_packages.specs.Items.{slash_item}
use Rattle.feats_unused.specs.Dead.{is_dead}
use Rattle.feats_unused.proofs.dead.is_dead.Goals as goal

pub returns-then-weak : goal.returns-then-weak
returns-then-weak c = λ x has.
    let d = c.in-DependencyNamedFeature in
    ap not (c.contains.ensures ∙ has.1 d.dep_name) ∙ ap (λ (b : Bool). is_dead x (slash_item d.dep_name.now d.feature.now b)) (sym c.if-weak.true) ∙ ap (is_dead x) d.ensures

pub returns-else-weak : goal.returns-else-weak
returns-else-weak c = λ x has.
    let d = c.in-DependencyNamedFeature in
    ap not (c.contains-else-weak.ensures ∙ has.0 d.dep_name) ∙ ap (λ (b : Bool). is_dead x (slash_item d.dep_name.now d.feature.now b)) (sym c.if-weak.false) ∙ ap (is_dead x) d.ensures
