use Rattle.std.proofs.Common.{◌∙◌, ℕ, List, ap, length, map, nat_lt, sym}
use Rattle.std.specs.Map.Iter.{deref_pair}
use Rattle.std.proofs.lemmas.List.{map-append}
use Rattle.std.proofs.lemmas.Map.Iter.{rest_more}
use Rattle.feats_duplicates.specs.Versions.{version_of}
use Rattle.feats_duplicates.specs.Views.{versions_text}
use Rattle.feats_duplicates.proofs.NameLemmas.{several_more}
use Rattle.feats_duplicates.proofs.versions.with_several.Goals as goal

pub loop-name-preserved-in_ok-push : goal.loop-name-preserved-in_ok-push
loop-name-preserved-in_ok-push c = λ packages units links has.
    let f = version_of packages units links in
    let left = rest_more deref_pair c.loop-name.name-iterator c.next.new.self c.next.result (c.in-Some.name, c.in-Some.numbers) c.in-Some.is c.next.ensures.steps in
    let several = sym (c.are_several.ensures ∙ ap (λ (ns : List ℕ). nat_lt 1 (length ns)) c.deref.ensures.value) ∙ c.if-are_several.true in
    let are = c.in_ok-versions_at.ensures packages units links has ∙ ap (λ (ns : List ℕ). map f ns) c.deref-then-are_several.ensures.value in
    several_more f _ _ _ _ _ _ _ left several (c.loop-name.invariant packages units links has) are
    (ap (map versions_text) c.in_ok-push.ensures.items ∙ map-append versions_text c.loop-name.list.items _)
