-- What differs between two plans.
use Rattle.std.specs.Prelude.{◌≡◌, List, ◌++◌, map, IsPermutation}
use Rattle.feats_diff.specs.changes.Changes.{ChangeText, change_of}
use Rattle.feats_diff.specs.changes.Orders.{Ascends, name_cmp, part_cmp}
use Rattle.feats_diff.specs.changes.Pairings.{AreAscending, ArePaired, PairingText}
use Rattle.feats_diff.specs.changes.Parts.{PartText}

-- The parts that come and go; those whose version or source changes; those that stay as they are, but for their features.
pub record DifferencesText : Type 0 where
  pub comes : List PartText
  pub gone : List PartText
  pub moved : List ChangeText
  pub kept : List ChangeText

-- These are the parts, in the order of place, name, version and source.
pub record AreInOrder (parts sorted : List PartText) : Type 0 where
  pub are_parts : IsPermutation parts sorted
  pub ascends : Ascends part_cmp sorted

-- THE DIFFERENCES of two plans. A part whose place, name, version and source are those of a part of the other plan stays. Of the others, those of one
-- place and name are paired in the order of their versions. Each list is in the order of place, name, version and source.
pub record AreDifferences (old new : List PartText) (d : DifferencesText) : Type 0 where
  pub sorted_old : List PartText
  pub sorted_new : List PartText
  pub is_old : AreInOrder old sorted_old
  pub is_new : AreInOrder new sorted_new
  pub same : PairingText
  pub others : PairingText
  pub are_same : ArePaired part_cmp sorted_old sorted_new same
  pub are_others : ArePaired name_cmp same.gone same.comes others
  pub same_ascend : AreAscending same
  pub others_ascend : AreAscending others
  pub kept : d.kept ≡ map change_of same.pairs
  pub moved : d.moved ≡ map change_of others.pairs
  pub gone : d.gone ≡ others.gone
  pub comes : d.comes ≡ others.comes

-- Each old part stays, changes its version or goes, and each new part stays, has changed its version or comes.
pub record IsPartitioned (old new : List PartText) (d : DifferencesText) : Type 0 where
  pub olds : IsPermutation old (map (λ c. c.old) d.kept ++ (map (λ c. c.old) d.moved ++ d.gone))
  pub news : IsPermutation new (map (λ c. c.new) d.kept ++ (map (λ c. c.new) d.moved ++ d.comes))
