use Rattle.std.proofs.Common.{◌≡◌, ◌++◌, drop}
use Rattle.feats_tree.specs.dots.Dots.{links_text}
use Rattle.feats_tree.proofs.dots.dots.push_links.Given as goal

abbrev pub invariant-loop-link : goal.invariant-loop-link
invariant-loop-link l = l.initial.text.items ++ links_text l.links ≡ l.text.items ++ links_text (drop l.link-index l.links)
