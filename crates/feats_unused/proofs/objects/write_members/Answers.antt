use Rattle.std.proofs.Common.{◌≡◌, ◌∙◌, List, ap, subst}
use Rattle.cargo_workspaces.specs.Views.{package_text}
use Rattle.cargo_workspaces.specs.Workspaces.{Text}
use Rattle.json.specs.Token.{Token}
use Rattle.feats_lines.specs.parts.Members.{Appends}
use Rattle.feats_unused.specs.Lines.{kind_of, package_of}
use Rattle.feats_unused.specs.Objects.{head}
use Rattle.feats_unused.specs.Views.{shown_text}
use Rattle.feats_lines.proofs.Tokens.{appended, on_ok}
use Rattle.feats_unused.proofs.objects.write_members.Goals as goal

pub returns : goal.returns
returns c =
    let s = shown_text c.args.shown.now in
    let heads : head c.kind_of.result.now (package_text c.package_of.result.now) ≡ head (kind_of s) (package_of s) =
    ap (λ (k : Text). head k (package_text c.package_of.result.now)) c.kind_of.ensures ∙ ap (head (kind_of s)) c.package_of.ensures in
    on_ok c.write_detail.result c.write_detail.ensures (λ last.
    appended _ _ _ _ _ (subst (λ (t : List Token). Appends c.args.writer.now c.write_head.new.writer t) heads c.in_ok-write_head.ensures) last)
