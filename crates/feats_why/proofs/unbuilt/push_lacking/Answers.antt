use Rattle.std.proofs.Common.{codes, string_bytes}
use Rattle.feats_why.proofs.Pushed.{grown_three}
use Rattle.feats_why.proofs.unbuilt.push_lacking.Goals as goal

pub returns-in_ok-push_str-in-Some-2 : goal.returns-in_ok-push_str-in-Some-2
returns-in_ok-push_str-in-Some-2 c =
    rw c.in-Some.is (grown_three (string_bytes c.args.text.now) (codes ": ") _ (codes " has no build script") _ _ _
    c.in_ok-push_str-in-Some.ensures.bytes c.in_ok-push_base-in-Some.ensures c.in_ok-push_str-in-Some-2.ensures.bytes)
