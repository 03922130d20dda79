-- The position of a reader in a text.
use Rattle.std.proofs.Common.{◌≡◌, ℕ, ◌≤◌, List, [], ◌∷◌, ◌++◌, length, Option, Some, None, refl, ap, sym, ◌∙◌, append_assoc, append-nil, arith, length-append}
use Rattle.std.proofs.lemmas.Str.{encodes-chars, cons_from_encodes, length-le-encodes, encodes-append}
use Rattle.std.specs.Char.{encode_utf8}
use Rattle.std.specs.Str.{chars, encode_utf8_all, IsUtf8}
use Rattle.platform_specs.specs.inner.Runs.{run}
use Rattle.platform_specs.specs.inner.Positions.{Stopped, ReadAll}
use Rattle.platform_specs.proofs.Runs.{run_cons, run_past}

module _ {S : Type 0} (step : S → ℕ → Option S) (start : S) where
  -- the reader has read all but `rest`, which has `left` bytes
  pub record At (text rest : List ℕ) (left : ℕ) (state : S) : Type 0 where
    pub front : List ℕ
    pub cs : List ℕ
    pub parts : chars text ≡ front ++ cs
    pub is_rest : encode_utf8_all cs ≡ rest
    pub place : left ≡ length rest
    pub reads : run step front start ≡ Some state

  pub at_start : (text rest : List ℕ) (left : ℕ) (state : S) → IsUtf8 text → rest ≡ text → left ≡ length text → state ≡ start → At text rest left state
  at_start text rest left state u r l s = record {
    front = [];
    cs = chars text;
    parts = refl;
    is_rest = encodes-chars text u ∙ sym r;
    place = l ∙ ap length (sym r);
    reads = ap Some (sym s);
  }

  pub at_next : (text rest rest' : List ℕ) (left left' c : ℕ) (s t : S) → At text rest left s → rest ≡ encode_utf8 c ++ rest' → left' ≡ length rest' → step s c ≡ Some t → At text rest' left' t
  at_next text rest rest' left left' c s t h r l e =
      let k = cons_from_encodes h.cs rest' c (h.is_rest ∙ r) in
      record {
        front = h.front ++ c ∷ [];
        cs = k.0;
        parts = h.parts ∙ ap (λ l. h.front ++ l) k.1 ∙ sym (append_assoc h.front (c ∷ []) k.0);
        is_rest = k.2;
        place = l;
        reads = run_past step h.front (c ∷ []) start s h.reads ∙ run_cons step c [] s t e;
      }

  pub at_stop : (text rest rest' : List ℕ) (left c : ℕ) (s : S) → At text rest left s → rest ≡ encode_utf8 c ++ rest' → step s c ≡ None → Stopped step start text left
  at_stop text rest rest' left c s h r e =
      let k = cons_from_encodes h.cs rest' c (h.is_rest ∙ r) in
      record {
        front = h.front;
        c = c;
        rest = k.0;
        state = s;
        parts = h.parts ∙ ap (λ l. h.front ++ l) k.1;
        place = h.place ∙ ap length (sym h.is_rest ∙ ap encode_utf8_all k.1);
        reads = h.reads;
        stops = e;
      }

  no_chars : (cs : List ℕ) → length (encode_utf8_all cs) ≡ 0 → cs ≡ []
  no_chars [] e = refl
  no_chars (c ∷ cs) e = absurd (omega (arith, length-le-encodes (c ∷ cs)))

  pub at_end : (text rest : List ℕ) (left : ℕ) (s : S) → At text rest left s → length rest ≡ 0 → ReadAll step start text s
  at_end text rest left s h e = record {
    reads =
        ap (λ l. run step l start) (h.parts ∙ ap (λ l. h.front ++ l) (no_chars h.cs (ap length h.is_rest ∙ e)) ∙ append-nil h.front) ∙ h.reads;
  }

  pub stopped_within : (text : List ℕ) (left : ℕ) → IsUtf8 text → Stopped step start text left → left ≤ length text
  stopped_within text left u h =
      let e : length text ≡ length (encode_utf8_all h.front ++ encode_utf8_all (h.c ∷ h.rest)) =
      ap length (sym (encodes-chars text u) ∙ ap encode_utf8_all h.parts ∙ encodes-append h.front (h.c ∷ h.rest)) in
      omega (arith, e, h.place, length-append (encode_utf8_all h.front) (encode_utf8_all (h.c ∷ h.rest)))
