use Rattle.std.proofs.Common.{◌≡◌, ◌∙◌, ◌+◌, ◌∷◌, OnOk, ap, arith, drop, length, subst, sym, take}
use Rattle.std.proofs.lemmas.List.{length-map}
use Rattle.guppy_packages.specs.Stored.{link_tables}
use Rattle.guppy_packages.specs.Parts.{first_text}
use Rattle.guppy_packages.specs.Rows.{row_text, texts}
use Rattle.guppy_packages.specs.inner.Noted.{AreNoted}
use Rattle.guppy_packages.specs.inner.RowTexts.{AreAt, row_texts}
use Rattle.guppy_packages.proofs.second_pass.link_row.Goals as goal

pub push_link-requires-clause-noted : goal.push_link-requires-clause-noted
push_link-requires-clause-noted c = subst (λ n. AreNoted n (link_tables c.args.links.now.items) c.args.noted.now.last.items c.args.noted.now.first) (sym c.saturating_sub-from.ensures) c.requires.noted

pub returns-clause-noted : goal.returns-clause-noted
returns-clause-noted c = subst (λ n. OnOk c.push_link.result (AreNoted n (link_tables c.push_link.new.links.items) c.push_link.new.noted.last.items c.push_link.new.noted.first)) c.saturating_sub-from.ensures c.push_link.ensures.noted

pub returns-clause-tables : goal.returns-clause-tables
returns-clause-tables c =
    let all = c.args.list.now.value in
    let name = c.in-Dep.name.now in
    let listed = texts c.in-Dep.features.now in
    let at : AreAt all c.args.noted.now.at (name ∷ listed) = subst (λ r. AreAt all c.args.noted.now.at (row_texts (row_text r))) c.in-Dep.is c.requires.texts in
    let long : c.in_ok-count.field-0 + 1 ≡ length (name ∷ listed) = omega (arith, c.in_ok-count.ensures, length-map c.in-Dep.features.now (λ t. t.now)) in
    let run : c.in_ok-texts.texts ≡ name ∷ listed = c.in_ok-texts.ensures ∙ ap (λ n. take n (drop c.args.noted.now.at all)) long ∙ at.are in
    let named : first_text c.in_ok-declaration.declaration.texts ≡ name = ap first_text (c.in_ok-declaration.ensures.texts ∙ run) in
    let features : drop 1 c.in_ok-texts.texts ≡ listed = ap (drop 1) run in
    rw (c.in-Dep.is, ← c.in_ok-to.ensures, c.in-Some.is) (rw (named, c.saturating_sub-from.ensures, c.in_ok-declaration.ensures.declared, features) at c.push_link.ensures.tables)
