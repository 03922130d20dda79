use Rattle.feats_duplicate_lines.proofs.Lists.{joined_six}
use Rattle.feats_duplicate_lines.proofs.manifest_lines.manifest_line.Goals as goal

pub returns : goal.returns
returns c =
    joined_six _ _ _ _ _ _ _ _ _ _ _ _ c.in_ok-text.ensures.ok c.in_ok-push_str.ensures.bytes c.in_ok-push_str-2.ensures.bytes c.in_ok-push_str-3.ensures.bytes c.in_ok-push_list.ensures c.in_ok-push_str-4.ensures.bytes
