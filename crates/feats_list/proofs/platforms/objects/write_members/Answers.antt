use Rattle.std.proofs.Common.{List, subst}
use Rattle.std.specs.Prelude.{OnOk, codes}
use Rattle.std.specs.Borrow.{Bor}
use Rattle.cargo_workspaces.specs.Views.{texts}
use Rattle.cargo_workspaces.specs.Workspaces.{Text}
use Rattle.feats_lines.specs.parts.Members.{Appends, texts_member}
use Rattle.feats_lines.proofs.Tokens.{appended, on_ok}
use Rattle.feats_list.proofs.platforms.objects.write_members.Goals as goal

pub returns : goal.returns
returns c =
    let holds = subst (λ (names : List (Bor Text)). Appends c.write_number.new.writer c.write_texts.new.writer (texts_member (codes "holds") (texts names))) c.deref.ensures.value c.in_ok-write_texts.ensures in
    let fails = subst (λ (names : List (Bor Text)). OnOk c.write_texts-2.result (Appends c.write_texts.new.writer c.write_texts-2.new.writer (texts_member (codes "fails") (texts names)))) c.deref-2.ensures.value c.write_texts-2.ensures in
    on_ok c.write_texts-2.result fails (λ last. appended _ _ _ _ _ c.in_ok-write_member.ensures (appended _ _ _ _ _ c.in_ok-write_number.ensures (appended _ _ _ _ _ holds last)))
