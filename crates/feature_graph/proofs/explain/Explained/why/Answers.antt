use Rattle.std.proofs.Common.{◌≡◌, ◌∙◌, ap, map, sym, subst}
use Rattle.std.specs.Prelude.{All, IsTrue, IsFalse, MatchOption}
use Rattle.std.specs.Option.{is_some}
use Rattle.digraphs.specs.Bits.{has}
use Rattle.feature_labels.specs.Names.{id_of}
use Rattle.feature_graph.specs.Explained.{AreTold, IsBacked, ListMembers}
use Rattle.feature_graph.specs.Told.{Explanation, step_name, step_told}
use Rattle.feature_graph.specs.Views.{graph_of}
use Rattle.feature_graph.proofs.CheckLemmas.{KeptWhy, kept_backed, tells_why}
use Rattle.feature_graph.proofs.ToldLemmas.{backed_told}
use Rattle.feature_graph.proofs.explain.Explained.why.Goals as goal

pub returns-in_default-2-clause-told : goal.returns-in_default-2-clause-told
returns-in_default-2-clause-told c n at =
    let g = c.graph.result.now in
    let b = g.built.now in
    let x : Explanation = record { graph = graph_of g; direction = c.self.inside.direction; members = c.self.inside.set.members; steps = c.deref.result.now; refused = c.self.inside.refused_numbers.items } in
    let same : x ≡ c.args.self.now = (λ i. record { graph = c.graph.ensures.value i; direction = c.self.inside.direction; members = c.self.inside.set.members; steps = c.deref.ensures.value i; refused = c.self.inside.refused_numbers.items }) ∙ c.self.view_is in
    let backed : IsBacked x.graph x.direction x.steps = subst (λ l. IsBacked x.graph x.direction l) (sym c.deref.ensures.value) (subst (λ z. IsBacked z x.direction c.self.inside.numbers.items) (sym c.graph.ensures.value) c.self.invariant.2) in
    let listed : ListMembers x.members x.steps = subst (λ l. ListMembers x.members l) (sym c.deref.ensures.value) c.self.invariant.3 in
    subst (λ o. MatchOption o (IsFalse (has c.args.self.now.members n)) (λ kept. KeptWhy c.args.self.now n kept.items)) c.in_default-2.is
    (tells_why (λ v. v.items) x c.in-Some.node c.in_ok-kept.field-0 (c.content_of_graph.ensures.count b g.is_built) c.in_ok-kept.ensures.told backed listed c.args.self.now (id_of c.args.feature_id) same c.in-Some.ensures.named n at)

pub told_steps-requires : goal.told_steps-requires
told_steps-requires c =
    let g = c.graph.result.now in
    let b = g.built.now in
    let x : Explanation = record { graph = graph_of g; direction = c.self.inside.direction; members = c.self.inside.set.members; steps = c.deref.result.now; refused = c.self.inside.refused_numbers.items } in
    let backed : IsBacked x.graph x.direction x.steps = subst (λ l. IsBacked x.graph x.direction l) (sym c.deref.ensures.value) (subst (λ z. IsBacked z x.direction c.self.inside.numbers.items) (sym c.graph.ensures.value) c.self.invariant.2) in
    let kept : IsBacked x.graph x.direction c.in-Some-2.kept.items = kept_backed (λ v. v.items) x c.in-Some.node c.in_ok-kept.field-0 (c.content_of_graph.ensures.count b g.is_built) c.in_ok-kept.ensures.told backed c.in-Some-2.kept c.in-Some-2.is in
    subst (λ l. All (λ step. IsTrue (is_some (step_told (graph_of g) step))) l) (sym c.deref-2.ensures.value)
    (backed_told (graph_of g) g.is_built c.offers_are_links.ensures (c.content_of_graph.ensures.count b g.is_built) (λ d. c.content_of_graph.ensures.ends b d g.is_built) x.direction c.in-Some-2.kept.items kept)

pub returns-in-Ok-clause-told : goal.returns-in-Ok-clause-told
returns-in-Ok-clause-told c n at =
    let g = c.graph.result.now in
    let b = g.built.now in
    let x : Explanation = record { graph = graph_of g; direction = c.self.inside.direction; members = c.self.inside.set.members; steps = c.deref.result.now; refused = c.self.inside.refused_numbers.items } in
    let same : x ≡ c.args.self.now = (λ i. record { graph = c.graph.ensures.value i; direction = c.self.inside.direction; members = c.self.inside.set.members; steps = c.deref.ensures.value i; refused = c.self.inside.refused_numbers.items }) ∙ c.self.view_is in
    let backed : IsBacked x.graph x.direction x.steps = subst (λ l. IsBacked x.graph x.direction l) (sym c.deref.ensures.value) (subst (λ z. IsBacked z x.direction c.self.inside.numbers.items) (sym c.graph.ensures.value) c.self.invariant.2) in
    let listed : ListMembers x.members x.steps = subst (λ l. ListMembers x.members l) (sym c.deref.ensures.value) c.self.invariant.3 in
    let told : AreTold c.args.self.now.graph c.in-Some-2.kept.items _ = subst (λ z. AreTold z c.in-Some-2.kept.items (map step_name c.in-Ok.told.items)) (ap (λ z. z.graph) same) (subst (λ l. AreTold (graph_of g) l (map step_name c.in-Ok.told.items)) c.deref-2.ensures.value c.in-Ok.ensures) in
    let why : KeptWhy c.args.self.now n c.in-Some-2.kept.items = subst (λ o. MatchOption o (IsFalse (has c.args.self.now.members n)) (λ kept. KeptWhy c.args.self.now n kept.items)) c.in-Some-2.is
    (tells_why (λ v. v.items) x c.in-Some.node c.in_ok-kept.field-0 (c.content_of_graph.ensures.count b g.is_built) c.in_ok-kept.ensures.told backed listed c.args.self.now (id_of c.args.feature_id) same c.in-Some.ensures.named n at) in
    record { member = why.member; why = λ initials A long explained. record { steps = c.in-Some-2.kept.items; are_steps = told; why = why.why initials A long explained } }
