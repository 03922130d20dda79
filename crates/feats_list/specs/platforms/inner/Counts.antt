-- Maps that count texts.
use Rattle.std.specs.Prelude.{◌≡◌, ℕ, List, Option, Some, None, map, nat_lt, if◌then◌else◌}
use Rattle.std.specs.Borrow.{Bor}
use Rattle.std.specs.BTreeMap.{BTreeMap, get_by}
use Rattle.std.specs.declared.cmp.Ordering.{Ordering}
use Rattle.cargo_workspaces.specs.Workspaces.{Text, text_cmp}
use Rattle.feats_list.specs.platforms.Lists.{AreOnce, CountedText, count_of, counted_of}
use Rattle.feats_list.specs.declared.platforms.counted.Counted.{Counted}

-- The order of a map's keys.
abbrev pub key_cmp : Bor Text → Bor Text → Ordering
key_cmp a b = text_cmp a.now b.now

-- The number, unless it is zero.
abbrev pub some_count : ℕ → Option ℕ
some_count n = if nat_lt 0 n then Some n else None

-- The map has each of the texts, with the number of times that it is there, and no others.
abbrev pub HasCounts : BTreeMap (Bor Text) ℕ → List Text → Type 0
HasCounts counts texts = (q : Text) → get_by (λ k. text_cmp q k.now) counts ≡ some_count (count_of texts q)

abbrev pub pair_text : Bor Text × ℕ → CountedText
pair_text e = record { spec = e.0.now; count = e.1 }

abbrev pub counted_text : Counted → CountedText
counted_text c = record { spec = c.spec.now; count = c.count }

-- These are the texts once each, with their counts.
pub record AreCounted (texts : List Text) (counted : List CountedText) : Type 0 where
  pub once : List Text
  pub are_once : AreOnce texts once
  pub are_counted : counted ≡ map (counted_of texts) once
