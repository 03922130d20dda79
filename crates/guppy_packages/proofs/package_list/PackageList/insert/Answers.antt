use Rattle.std.proofs.Common.{◌≡◌, ◌∙◌, ◌++◌, ◌∷◌, [], Bool, true, false, if◌then◌else◌, ap, not, refl, rules, sym}
use Rattle.std.specs.List.{list_any}
use Rattle.std.specs.Str.{bytes_eq}
use Rattle.guppy_packages.proofs.PairLemmas.{list_any-firsts, zip-push}
use Rattle.guppy_packages.proofs.package_list.PackageList.insert.Goals as goal

absent : (b : Bool) → true ≡ not b → b ≡ false
absent true h = h
absent false h = refl

pub returns-in-Ok-true-clause-added : goal.returns-in-Ok-true-clause-added
returns-in-Ok-true-clause-added c =
    sym c.in-Ok-true.field-0-test ∙ c.in-Ok-true.ensures.added
    ∙ ap not (list_any-firsts (bytes_eq c.args.id) c.self.inside.ids.keys c.self.inside.contents.items c.self.invariant ∙ ap (list_any (λ e. bytes_eq c.args.id e.0)) c.self.view_is)

pub returns-in-Ok-true-clause-packages : goal.returns-in-Ok-true-clause-packages
returns-in-Ok-true-clause-packages c =
    let ids = c.self.inside.ids.keys in
    let none : list_any (bytes_eq c.args.id) ids ≡ false = absent _ (sym c.in-Ok-true.field-0-test ∙ c.in-Ok-true.ensures.added) in
    let more : c.insert_into.new.set.keys ≡ ids ++ c.args.id ∷ [] = c.in-Ok-true.ensures.keys ∙ ap (λ b. if b then ids else ids ++ c.args.id ∷ []) none in
    let contents : c.push_to.new.items.items ≡ c.self.inside.contents.items ++ c.args.contents ∷ [] = search rules in
    rw (more, contents) (zip-push ids c.self.inside.contents.items c.args.id c.args.contents c.self.invariant ∙ ap (λ l. l ++ (c.args.id, c.args.contents) ∷ []) c.self.view_is)

pub returns-in-Ok-false-clause-added : goal.returns-in-Ok-false-clause-added
returns-in-Ok-false-clause-added c =
    sym c.in-Ok-false.field-0-test ∙ c.in-Ok-false.ensures.added
    ∙ ap not (list_any-firsts (bytes_eq c.args.id) c.self.inside.ids.keys c.self.inside.contents.items c.self.invariant ∙ ap (list_any (λ e. bytes_eq c.args.id e.0)) c.self.view_is)
