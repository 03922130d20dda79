use Rattle.std.proofs.Common.{codes, string_bytes}
use Rattle.feats_why.proofs.Pushed.{grown_four}
use Rattle.feats_why.proofs.unbuilt.push_unbuilt.Goals as goal

pub returns : goal.returns
returns c =
    grown_four (string_bytes c.args.text.now) _ (codes " is ") _ (codes "\n") _ _ _ _
    c.in_ok-push_spot.ensures c.in_ok-push_str.ensures.bytes c.in_ok-push_message.ensures c.in_ok-push_str-2.ensures.bytes
