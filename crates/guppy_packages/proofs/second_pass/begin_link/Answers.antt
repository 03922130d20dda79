use Rattle.std.proofs.Common.{ℕ, ◌++◌, ◌∷◌, [], ◌∙◌, ap, ap₂}
use Rattle.std.proofs.lemmas.List.{map-append}
use Rattle.guppy_packages.specs.Parts.{first_text}
use Rattle.guppy_packages.specs.Stored.{declared, link_table, link_tables}
use Rattle.guppy_packages.specs.Tables.{LinkTable}
use Rattle.guppy_packages.proofs.second_pass.begin_link.Goals as goal

pub returns-clause-links : goal.returns-clause-links
returns-clause-links c =
    let es = c.args.links.now.items in
    let link : ℕ → ℕ → LinkTable = λ from to. record { from = from; to = to; name = first_text c.args.declaration.texts; declarations = declared c.args.declaration ∷ [] } in
    ap link_tables c.in_ok-push_to.ensures ∙ map-append link_table es (_ ∷ []) ∙ ap₂ (λ from to. link_tables es ++ link from to ∷ []) c.in_ok-narrow.ensures c.in_ok-narrow-2.ensures
