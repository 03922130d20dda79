use Rattle.std.proofs.Common.{◌∙◌, ◌++◌, ◌∷◌, [], ap, sym, subst, List, true, if◌then◌else◌}
use Rattle.std.specs.Prelude.{filter}
use Rattle.std.specs.List.{list_any}
use Rattle.guppy_packages.specs.Metadata.{link_table_of}
use Rattle.guppy_packages.specs.Rows.{Declared}
use Rattle.feature_links.specs.inner.Collected.{HasKinds}
use Rattle.feature_links.specs.Links.{includes}
use Rattle.std.proofs.lemmas.Result.{on_ok_weaker}
use Rattle.feature_links.proofs.LinkLemmas.{parts_more}
use Rattle.feature_links.proofs.link.from_declarations.LinkParts.add_link.Goals as goal

pub returns : goal.returns
returns c = on_ok_weaker c.note.result (λ links before h.
    let which = c.args.which in
    let ds : List Declared = filter (λ d. includes which d) (link_table_of c.args.link).declarations in
    let declared_here = c.declarations.ensures in
    parts_more c.args.self.now c.note.new.self c.args.link.link_ix ds c.in_ok-added.added before h
    (λ xs k. subst (λ s. HasKinds s (xs ++ ds)) (sym c.note.ensures.statuses) (subst (λ z. HasKinds c.add_all_included.new.statuses (xs ++ filter (λ d. includes which d) z)) declared_here (c.in_ok-added.ensures.kinds xs k)))
    (c.in_ok-added.ensures.added ∙ ap (λ z. list_any (λ d. true) (filter (λ d. includes which d) z)) declared_here)
    (links ∙ ap (λ k. if c.in_ok-added.added then c.args.self.now.links.items ++ k ∷ [] else c.args.self.now.links.items) c.link_ix.ensures.number)) c.note.ensures.links
