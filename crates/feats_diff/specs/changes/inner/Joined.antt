-- Two lists in an order, joined in one pass.
use Rattle.std.specs.Prelude.{List, [], ◌∷◌, ◌++◌}
use Rattle.std.specs.declared.cmp.Ordering.{Ordering}
use Rattle.std.specs.declared.cmp.Ordering.TheVariants.{Less, Equal, Greater}
use Rattle.feats_diff.specs.changes.Orders.{PartOrder, name_cmp, part_cmp}
use Rattle.feats_diff.specs.changes.Pairings.{PairingText}
use Rattle.feats_diff.specs.changes.Parts.{PartText}
use Rattle.feats_diff.specs.declared.changes.orders.By.{By}
use Rattle.feats_diff.specs.declared.changes.orders.By.TheVariants as by

abbrev pub cmp_by : By → PartOrder
cmp_by by.Name = name_cmp
cmp_by by.Version = part_cmp

abbrev pub with_gone : PartText → PairingText → PairingText
with_gone x p = record { gone = x ∷ p.gone; pairs = p.pairs; comes = p.comes }

abbrev pub with_pair : PartText → PartText → PairingText → PairingText
with_pair x y p = record { gone = p.gone; pairs = (x, y) ∷ p.pairs; comes = p.comes }

abbrev pub with_new : PartText → PairingText → PairingText
with_new y p = record { gone = p.gone; pairs = p.pairs; comes = y ∷ p.comes }

abbrev pub chosen : Ordering → PairingText → PairingText → PairingText → PairingText
chosen Less less equal greater = less
chosen Equal less equal greater = equal
chosen Greater less equal greater = greater

-- An old part, of which `rest` is what the later old parts make of new ones.
unfoldable pub joined_from : PartOrder → PartText → (List PartText → PairingText) → List PartText → PairingText
joined_from cmp x rest [] = with_gone x (rest [])
joined_from cmp x rest (y ∷ ys) = chosen (cmp x y) (with_gone x (rest (y ∷ ys))) (with_pair x y (rest ys)) (with_new y (joined_from cmp x rest ys))

unfoldable pub joined : PartOrder → List PartText → List PartText → PairingText
joined cmp [] ys = record { gone = []; pairs = []; comes = ys }
joined cmp (x ∷ xs) ys = joined_from cmp x (joined cmp xs) ys

-- One pairing, and then the other.
abbrev pub followed_by : PairingText → PairingText → PairingText
followed_by p q = record { gone = p.gone ++ q.gone; pairs = p.pairs ++ q.pairs; comes = p.comes ++ q.comes }
