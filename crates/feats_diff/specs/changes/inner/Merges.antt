-- The state of the pass that joins two lists.
use Rattle.std.specs.Prelude.{◌+◌, ◌-◌, ◌<◌, ◌≤◌, ℕ, List, drop, map}
use Rattle.feats_diff.specs.changes.Pairings.{PairingText}
use Rattle.feats_diff.specs.changes.Views.{pair_text, part_text}
use Rattle.feats_diff.specs.changes.inner.Joined.{cmp_by, followed_by, joined}
use Rattle.feats_diff.specs.declared.changes.matches.Pairing.{Pairing}
use Rattle.feats_diff.specs.declared.changes.matches.Taken.{Taken}
use Rattle.feats_diff.specs.declared.changes.orders.By.{By}
use Rattle.feats_diff.specs.declared.changes.parts.Part.{Part}

abbrev pub pairing_text : Pairing → PairingText
pairing_text p = record { gone = map part_text p.gone.items; pairs = map pair_text p.pairs.items; comes = map part_text p.comes.items }

-- What is found, and then what the parts that are left make.
abbrev pub finished : By → List Part → List Part → Taken → Pairing → PairingText
finished by old new taken found = followed_by (pairing_text found) (joined (cmp_by by) (map part_text (drop taken.old old)) (map part_text (drop taken.new new)))

-- More parts are taken, and no more than there are.
pub record IsStep (olds news : ℕ) (taken next : Taken) : Type 0 where
  pub old : next.old ≤ olds
  pub new : next.new ≤ news
  pub less : (olds - next.old) + (news - next.new) < (olds - taken.old) + (news - taken.new)
