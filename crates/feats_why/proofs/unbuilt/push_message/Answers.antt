use Rattle.std.proofs.Common.{codes, string_bytes}
use Rattle.feats_why.proofs.Pushed.{pushed_four}
use Rattle.feats_why.proofs.unbuilt.push_message.Goals as goal

pub returns : goal.returns
returns c =
    pushed_four c.push_lacking.result (string_bytes c.args.text.now) (codes "asked for, but ") _ (codes " isn't built") _ _ _ _ _
    c.in_ok-push_str.ensures.bytes c.in_ok-push_base.ensures c.in_ok-push_str-2.ensures.bytes c.push_lacking.ensures
