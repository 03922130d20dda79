use Rattle.std.proofs.Common.{◌∙◌, ap}
use Rattle.std.specs.String.{string_bytes}
use Rattle.feats_routes.specs.Lines.{head, table_of_nodes}
use Rattle.feats_routes.specs.Shown.{shown_text}
use Rattle.feats_routes.proofs.Loops.{both_pushed}
use Rattle.feats_routes.proofs.lines.push_route.Goals as goal

pub returns : goal.returns
returns g c =
    let s = shown_text g.P.Platform.holds c.args.shown.now in
    both_pushed c.push_str.result (string_bytes c.push_str.new.self) (string_bytes c.push_head.new.text) (string_bytes c.args.text.now) (head s c.args.route.now.owner) c.as_str.result.now
    (table_of_nodes s c.args.route.now.nodes.items) c.push_str.ensures.bytes c.in_ok-push_head.ensures (c.as_str.ensures.value ∙ c.in_ok-table.ensures ∙ ap (table_of_nodes s) c.deref.ensures.value)
