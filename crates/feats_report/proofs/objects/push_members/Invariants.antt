use Rattle.std.proofs.Common.{◌≡◌, ◌++◌, flat_map, map, drop}
use Rattle.feats_report.specs.Objects.{member_after}
use Rattle.feats_report.specs.inner.Members.{member_text}
use Rattle.feats_report.proofs.objects.push_members.Given as goal

abbrev pub invariant-loop-member : goal.invariant-loop-member
invariant-loop-member l =
    l.initial.text.items ++ flat_map member_after (map member_text l.members)
    ≡ l.text.items ++ flat_map member_after (map member_text (drop l.member-index l.members))
