use Rattle.std.proofs.Common.{◌≡◌, ◌∙◌, Some, ap, sym, true, false}
use Rattle.std.specs.List.{list_any}
use Rattle.guppy_packages.specs.Metadata.{link_table_of}
use Rattle.guppy_packages.specs.Stored.{declared}
use Rattle.guppy_packages.proofs.Lists.{list_any-map}
use Rattle.feature_links.specs.Links.{includes, has_declaration}
use Rattle.feature_links.specs.Values.{link_facts}
use Rattle.feature_links.proofs.LinkLemmas.{no_half, some_half}
use Rattle.feature_links.proofs.link.from_declarations.half_of.Goals as goal

pub returns-then-not-is_any_included : goal.returns-then-not-is_any_included
returns-then-not-is_any_included c =
    let link = link_table_of c.link.result in
    let none : has_declaration c.args.which link ≡ false = ap (list_any (λ d. includes c.args.which d)) (sym c.declarations.ensures) ∙ list_any-map declared (λ d. includes c.args.which d) c.declarations.result.now ∙ sym c.is_any_included.ensures ∙ c.if-not-is_any_included.true in
    no_half c.args.graph.now c.args.which c.args.link_ix link c.link.ensures.link none

pub returns : goal.returns
returns c =
    let link = link_table_of c.link.result in
    let some : has_declaration c.args.which link ≡ true = ap (list_any (λ d. includes c.args.which d)) (sym c.declarations.ensures) ∙ list_any-map declared (λ d. includes c.args.which d) c.declarations.result.now ∙ sym c.is_any_included.ensures ∙ c.if-not-is_any_included.false in
    ap (λ l. Some (link_facts l)) c.in_ok-new.ensures.ok ∙ some_half c.args.graph.now c.args.which c.args.link_ix link (link_facts c.in_ok-link.link) c.link.ensures.link some (c.in_ok-link.ensures link c.link.ensures.link)
