use Rattle.std.proofs.Common.{◌≡◌, ℕ, ◌+◌, ◌<◌, ◌≤◌, List, length, slice_index}
use Rattle.digraph_orders.specs.inner.Numbering.{rank_at}
use Rattle.digraph_orders.proofs.SequenceLemmas.{IsNumbering}
use Rattle.digraph_orders.proofs.order.numbering.numbered.Given as goal

abbrev pub invariant-loop-place : goal.invariant-loop-place
invariant-loop-place l =
    record {
      numbers : List ℕ;
      numbering : IsNumbering l.list l.initial.components.items numbers l.begins.items l.place;
      few : length l.begins.items ≤ l.place;
      long : length l.components.items ≡ length l.list;
      places_long : length l.places.items ≡ length l.list;
      last_rank : (i : ℕ) → i + 1 ≡ l.place → rank_at l.list l.initial.components.items i ≡ l.last;
      put : (i : ℕ) → i < l.place → slice_index l.components.items (slice_index l.list i) ≡ slice_index numbers i;
      rest : (i : ℕ) → l.place ≤ i → i < length l.list → slice_index l.components.items (slice_index l.list i) ≡ rank_at l.list l.initial.components.items i;
      placed : (i : ℕ) → i < l.place → slice_index l.places.items (slice_index l.list i) ≡ i;
    }
