use Rattle.std.proofs.Common.{List, ℕ, subst}
use Rattle.std.specs.Prelude.{codes}
use Rattle.feats_lines.proofs.Tokens.{appended, on_ok}
use Rattle.feats_lines.specs.parts.Members.{Appends, text_member}
use Rattle.feats_routes.specs.Objects.{route_member}
use Rattle.feats_routes.specs.Shown.{shown_text}
use Rattle.feats_routes.proofs.objects.write_members.Goals as goal

pub returns : goal.returns
returns g c = on_ok c.write_route.result c.write_route.ensures (λ last.
    appended _ _ _ _ _
    (subst (λ (t : List ℕ). Appends c.args.writer.now c.write_member.new.writer (text_member (codes "member") t)) c.id_of.ensures c.in_ok-write_member.ensures)
    (subst (λ (n : List ℕ). Appends c.write_member.new.writer c.write_route.new.writer (route_member (shown_text g.P.Platform.holds c.args.shown.now) n)) c.deref.ensures.value last))
