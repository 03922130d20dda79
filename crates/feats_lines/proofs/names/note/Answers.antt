use Rattle.std.proofs.Common.{◌≡◌, ◌∙◌, sym, true, false}
use Rattle.std.specs.List.{list_any}
use Rattle.std.specs.Str.{bytes_eq}
use Rattle.feats_lines.proofs.Counts.{any_more, repeated_more, repeated_same, was_there, was_not_there}
use Rattle.feats_lines.proofs.names.note.Goals as goal

pub returns-in_ok-_is_new : goal.returns-in_ok-_is_new
returns-in_ok-_is_new c = λ names seen repeated.
    let there : list_any (bytes_eq c.args.name.now) names ≡ true = sym (seen c.args.name) ∙ was_there _ _ c.in_ok-insert.ensures.added c.if-not-branch.true in (
      λ q. any_more names c.args.name.now q.now _ _ (c.in_ok-insert.ensures.updates.0 q) (seen q),
      λ q. repeated_more names c.args.name.now q.now _ _ there (c.in_ok-_is_new.ensures.updates.0 q) (repeated q),
    )

pub returns-else-not-branch : goal.returns-else-not-branch
returns-else-not-branch c = λ names seen repeated.
    let none : list_any (bytes_eq c.args.name.now) names ≡ false = sym (seen c.args.name) ∙ was_not_there _ _ c.in_ok-insert.ensures.added c.if-not-branch.false in (
      λ q. any_more names c.args.name.now q.now _ _ (c.in_ok-insert.ensures.updates.0 q) (seen q),
      λ q. repeated_same names c.args.name.now q.now _ none (repeated q),
    )
