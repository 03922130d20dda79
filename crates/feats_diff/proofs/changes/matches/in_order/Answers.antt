use Rattle.std.proofs.Common.{IsPermutation, subst}
use Rattle.std.proofs.lemmas.List.Sorted.{IsPermutation-map}
use Rattle.feats_diff.specs.changes.Views.{part_text}
use Rattle.feats_diff.proofs.Sorted.{ascends}
use Rattle.feats_diff.proofs.changes.matches.in_order.Goals as goal

pub returns : goal.returns
returns c = record {
  are_parts = IsPermutation-map part_text c.args.parts.now c.sort.new.self.items (subst (λ xs. IsPermutation xs c.sort.new.self.items) c.in_ok-sorted.ensures.items c.in_ok-sort.ensures.permutation);
  ascends = ascends c.sort.new.self.items c.in_ok-sort.ensures.sorted;
}
