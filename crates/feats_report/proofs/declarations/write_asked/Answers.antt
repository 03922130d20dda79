use Rattle.std.proofs.Common.{List, map, subst}
use Rattle.std.specs.Prelude.{codes}
use Rattle.std.specs.Borrow.{Bor}
use Rattle.cargo_workspaces.specs.Workspaces.{Text}
use Rattle.feats_lines.proofs.Tokens.{appended, on_ok}
use Rattle.feats_lines.specs.parts.Members.{Appends, texts_member}
use Rattle.feats_report.proofs.declarations.write_asked.Goals as goal

pub returns : goal.returns
returns c = on_ok c.write_texts.result c.write_texts.ensures (λ last.
    appended _ _ _ _ _ c.in_ok-write_flag.ensures
    (subst (λ (names : List (Bor Text)). Appends c.write_flag.new.writer c.write_texts.new.writer (texts_member (codes "features") (map (λ t. t.now) names))) c.deref.ensures.value last))
