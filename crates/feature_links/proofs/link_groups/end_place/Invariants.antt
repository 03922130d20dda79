use Rattle.std.proofs.Common.{◌≡◌, ◌<◌, ◌≤◌, ℕ, true, get_or}
use Rattle.std.specs.Str.{bytes_eq}
use Rattle.feature_links.specs.inner.LinkOrder.{link_name}
use Rattle.feature_links.proofs.link_groups.end_place.Given as goal

abbrev pub invariant-loop-place : goal.invariant-loop-place
invariant-loop-place l = (k : ℕ) (d : ℕ) → l.start ≤ k → k < l.place → bytes_eq l.name (link_name l.graph (get_or l.links k d)) ≡ true
