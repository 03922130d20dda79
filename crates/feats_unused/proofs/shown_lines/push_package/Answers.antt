use Rattle.std.proofs.Common.{◌∙◌, ◌++◌, List, ap, append_assoc, flat_map, map, refl}
use Rattle.std.specs.Borrow.{Bor}
use Rattle.cargo_workspaces.specs.Views.{package_text, texts}
use Rattle.cargo_workspaces.specs.Workspaces.{Text}
use Rattle.feats_lines.proofs.Tokens.{on_ok}
use Rattle.feats_unused.specs.Shown.{ShownText, dead_lines, unused_line}
use Rattle.feats_unused.specs.Views.{shown_text}
use Rattle.feats_unused.proofs.shown_lines.push_package.Goals as goal

pub returns : goal.returns
returns c =
    let x = package_text c.args.«package».now in
    let old = map shown_text c.args.shown.now.items in
    let names = texts c.in_ok-unused.unused.items in
    on_ok c.push_dead.result c.push_dead.ensures (λ grown. (
      flat_map (unused_line x) names ++ dead_lines x,
      grown
          ∙ ap (λ (z : List ShownText). z ++ dead_lines x) (c.in_ok-push_each_unused.ensures ∙ ap (λ (z : List (Bor Text)). old ++ flat_map (unused_line x) (texts z)) c.deref.ensures.value)
          ∙ append_assoc old (flat_map (unused_line x) names) (dead_lines x),
      record { names = names; are_unused = c.in_ok-unused.ensures; are_lines = refl },
    ))
