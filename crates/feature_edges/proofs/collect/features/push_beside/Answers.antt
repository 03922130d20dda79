use Rattle.std.proofs.Common.{Some, refl}
use Rattle.feature_labels.specs.Names.LabelName.{named, optional}
use Rattle.feature_edges.specs.declared.candidate.CandidateKind.TheVariants.{SlashOptional}
use Rattle.feature_edges.proofs.PushLemmas.{pushed_to, none_beside, one_beside, two_beside, texts_differ, texts_alike}
use Rattle.feature_edges.proofs.collect.features.push_beside.Goals as goal

pub returns-in_ok-push_to-2 : goal.returns-in_ok-push_to-2
returns-in_ok-push_to-2 c =
    let t = c.args.numbers.graph.now in
    let u = c.args.from in
    let p = c.args.metadata.package_ix in
    let d = c.args.dep_name.now in
    two_beside t u c.in-Some.dependency p c.args.feature_name.now d c.args.keys.now.items c.push_to.new.keys.items c.push_to-then-ne.new.keys.items (texts_differ d c.args.feature_name.now c.if-ne.ensures) ((c.in-Some.ensures.node c.in-Some.dependency).0 refl)
    (pushed_to t u p SlashOptional 0 0 (optional d) (Some c.in-Some.dependency) c.args.keys.now.items c.push_to.new.keys.items (λ n. c.in-Some.ensures.node n) c.in_ok-push_to.ensures)
    (pushed_to t u p SlashOptional 0 0 (named d) c.named.result c.push_to.new.keys.items c.push_to-then-ne.new.keys.items (λ n. c.named.ensures.node n) c.in_ok-push_to-2.ensures)

pub returns-else-ne : goal.returns-else-ne
returns-else-ne c =
    let t = c.args.numbers.graph.now in
    let u = c.args.from in
    let p = c.args.metadata.package_ix in
    let d = c.args.dep_name.now in
    one_beside t u p c.args.feature_name.now d c.args.keys.now.items c.push_to.new.keys.items (texts_alike d c.args.feature_name.now c.if-ne.ensures)
    (pushed_to t u p SlashOptional 0 0 (optional d) (Some c.in-Some.dependency) c.args.keys.now.items c.push_to.new.keys.items (λ n. c.in-Some.ensures.node n) c.in_ok-push_to.ensures)

pub returns-in_default : goal.returns-in_default
returns-in_default c = none_beside c.args.numbers.graph.now c.args.from c.args.metadata.package_ix c.args.feature_name.now c.args.dep_name.now c.args.keys.now.items (λ n. c.in_default.ensures.node n)
