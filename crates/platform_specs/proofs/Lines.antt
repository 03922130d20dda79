-- The lines of a cfg text.
use Rattle.std.proofs.Common.{◌≡◌, ℕ, suc, ◌+◌, ◌<◌, ◌≤◌, ◌⊎◌, Bool, true, false, cond, List, [], ◌∷◌, ◌++◌, map, length, Option, Some, None, refl, ap, sym, subst, ◌∙◌, inl, inr, append_assoc, append-nil, arith}
use Rattle.std.specs.Prelude.{Result, Ok, Err, IfOk, IfErr, IfSome, MatchOption, ◌==◌}
use Rattle.std.specs.List.{position_or_len, before_first, after_first, slice_split}
use Rattle.std.proofs.lemmas.List.Splits.{slice_split_none, slice_split_first}
use Rattle.std.proofs.lemmas.List.Sums.{fails_before_first}
use denote.Ref.{Bor}
use Rattle.platform_specs.specs.inner.LineReading.{ReadsLine, pieces_behind, lines_behind}
use Rattle.std.specs.Str.{chars}
use Rattle.std.proofs.lemmas.Bool.Decides.{eqb_tells}
use Rattle.std.specs.Option.{option_and_then}
use Rattle.platform_specs.specs.Facts.{FactText}
use Rattle.platform_specs.specs.Expressions.{Target}
use Rattle.platform_specs.specs.Grammar.{SpellsLine, SpellsLines, without_return, lines_of, IsTarget}
use Rattle.platform_specs.specs.Faults.{IsFirstMalformed, IsCfgFault}
use Rattle.platform_specs.specs.inner.FactReading.{FactState, waiting, fact_step, fact_end, fact_run}
use Rattle.platform_specs.specs.inner.Positions.{Stopped, ReadAll}
use Rattle.platform_specs.specs.declared.fault.CfgFault.{CfgFault}
use Rattle.platform_specs.specs.declared.fault.CfgFault.TheVariants.{Malformed, Memory}
use Rattle.platform_specs.proofs.Runs.{run_past}
use Rattle.platform_specs.proofs.FactRuns.{FactRead, spaced_fact_read}
use Rattle.platform_specs.proofs.FactSound.{run_sound, end_sound}

-- a line spells at most one fact
same_end : (s t : FactState) (f g : FactText) → Some s ≡ Some t → fact_end false s ≡ Some f → fact_end false t ≡ Some g → f ≡ g
same_end s t f g e h k = let p : Some f ≡ Some g = sym h ∙ ap (fact_end false) (same e) ∙ k in same_fact p
  where
    same : Some s ≡ Some t → s ≡ t
    same q = cc

    same_fact : Some f ≡ Some g → f ≡ g
    same_fact q = cc

pub one_line : (line : List ℕ) (f g : FactText) → SpellsLine f line → SpellsLine g line → f ≡ g
one_line line f g h k =
    let a : FactRead false f (chars line) = spaced_fact_read false f (chars line) h in
    let b : FactRead false g (chars line) = spaced_fact_read false g (chars line) k in
    same_end a.state b.state f g (sym a.reads ∙ b.reads) a.ends b.ends

pub one_list : (ls : List (List ℕ)) (fs gs : List FactText) → SpellsLines ls fs → SpellsLines ls gs → fs ≡ gs
one_list [] fs gs h k = h ∙ sym k
one_list ([] ∷ ls) fs gs h k = one_list ls fs gs h k
one_list ((b ∷ bs) ∷ ls) fs gs (f, fs', fs_is, f_line, fs_lines) (g, gs', gs_is, g_line, gs_lines) =
    fs_is ∙ ap (λ x. x ∷ fs') (one_line (b ∷ bs) f g f_line g_line) ∙ ap (λ xs. g ∷ xs) (one_list ls fs' gs' fs_lines gs_lines) ∙ sym gs_is

-- a triple and a cfg text describe at most one target
pub one_target : (triple text : List ℕ) (s t : Target) → IsTarget triple text s → IsTarget triple text t → s ≡ t
one_target triple text s t h k =
    ap (λ x. record { triple = x; facts = s.facts }) (h.0 ∙ sym k.0)
    ∙ ap (λ xs. record { triple = t.triple; facts = xs }) (one_list (lines_of text) s.facts t.facts h.1 k.1)

-- a line at which the reader stops spells no fact
pub stopped_line : (line : List ℕ) (left : ℕ) → Stopped (fact_step false) waiting line left → (f : FactText) → SpellsLine f line → ⊥
stopped_line line left h f k =
    let a : FactRead false f (chars line) = spaced_fact_read false f (chars line) k in
    let stuck : fact_run false (chars line) waiting ≡ none =
    ap (λ l. fact_run false l waiting) h.parts ∙ run_past (fact_step false) h.front (h.c ∷ h.rest) waiting h.state h.reads ∙ ap (option_and_then (fact_run false h.rest)) h.stops in
    let clash : none ≡ Some a.state = sym stuck ∙ a.reads in
    cc
  where
    none : Option FactState
    none = None

-- a line that was read spells the fact at its end, or none
pub ended_line : (line : List ℕ) (s : FactState) (o : Option FactText) → ReadAll (fact_step false) waiting line s → o ≡ fact_end false s
    → MatchOption o ((f : FactText) → SpellsLine f line → ⊥) (λ f. SpellsLine f line)
ended_line line s (Some f) h e = end_sound false s (chars line) f (run_sound false (chars line) s h.reads) (sym e)
ended_line line s None h e = λ f k.
    let a : FactRead false f (chars line) = spaced_fact_read false f (chars line) k in
    let states : Some s ≡ Some a.state = sym h.reads ∙ a.reads in
    let ends : none ≡ Some f = e ∙ ap (fact_end false) (same states) ∙ a.ends in
    cc
  where
    none : Option FactText
    none = None

    same : {t : FactState} → Some s ≡ Some t → s ≡ t
    same q = cc

-- the facts so far, and the number of lines that were read
pub record LinesRead (ls rest : List (List ℕ)) (number : ℕ) (facts : List FactText) : Type 0 where
  pub on : (tail : List FactText) → SpellsLines rest tail → SpellsLines ls (facts ++ tail)
  pub fault : (n : ℕ) → IsFirstMalformed rest n → IsFirstMalformed ls (number + n)

pub lines_start : (ls rest : List (List ℕ)) (number : ℕ) (facts : List FactText) → rest ≡ ls → number ≡ 0 → facts ≡ [] → LinesRead ls rest number facts
lines_start ls rest number facts r z e = record {
  on = λ tail h. (let P : List FactText → Type 0 = λ xs. SpellsLines ls (xs ++ tail) in subst P (sym e) (let Q : List (List ℕ) → Type 0 = λ l. SpellsLines l tail in subst Q r h));
  fault = λ n h. (let P : ℕ → Type 0 = λ k. IsFirstMalformed ls (k + n) in subst P (sym z) (let Q : List (List ℕ) → Type 0 = λ l. IsFirstMalformed l (0 + n) in subst Q r (let R : ℕ → Type 0 = λ k. IsFirstMalformed rest k in subst R (omega arith) h)));
}

pub empty_line : (ls rest : List (List ℕ)) (line : List ℕ) (number : ℕ) (facts : List FactText) → LinesRead ls (line ∷ rest) number facts → line ≡ [] → LinesRead ls rest (number + 1) facts
empty_line ls rest line number facts h e = record {
  on = λ tail k. h.on tail (let P : List ℕ → Type 0 = λ l. SpellsLines (l ∷ rest) tail in subst P (sym e) k);
  fault = λ n k. (let P : ℕ → Type 0 = λ m. IsFirstMalformed ls m in subst P (omega arith) (h.fault (suc n) (inr (inl e, (n, refl, k)))));
}

with_fact : (rest : List (List ℕ)) (line : List ℕ) (f : FactText) (tail : List FactText) → (line ≡ [] → ⊥) → SpellsLine f line → SpellsLines rest tail → SpellsLines (line ∷ rest) (f ∷ tail)
with_fact rest [] f tail n h k = absurd (n refl)
with_fact rest (b ∷ bs) f tail n h k = (f, tail, refl, h, k)

pub fact_line : (ls rest : List (List ℕ)) (line : List ℕ) (number : ℕ) (facts : List FactText) (f : FactText) → LinesRead ls (line ∷ rest) number facts → (line ≡ [] → ⊥) → SpellsLine f line
    → LinesRead ls rest (number + 1) (facts ++ f ∷ [])
fact_line ls rest line number facts f h n s = record {
  on = λ tail k. (let P : List FactText → Type 0 = λ xs. SpellsLines ls xs in subst P (sym (append_assoc facts (f ∷ []) tail)) (h.on (f ∷ tail) (with_fact rest line f tail n s k)));
  fault = λ m k. (let P : ℕ → Type 0 = λ x. IsFirstMalformed ls x in subst P (omega arith) (h.fault (suc m) (inr (inr (f, s), (m, refl, k)))));
}

pub malformed_line : (ls rest : List (List ℕ)) (line : List ℕ) (number : ℕ) (facts : List FactText) → LinesRead ls (line ∷ rest) number facts → (line ≡ [] → ⊥) → ((f : FactText) → SpellsLine f line → ⊥)
    → IsFirstMalformed ls (number + 1)
malformed_line ls rest line number facts h n k = h.fault 1 (inl (refl, (n, k)))

pub all_lines : (ls : List (List ℕ)) (number : ℕ) (facts : List FactText) → LinesRead ls [] number facts → SpellsLines ls facts
all_lines ls number facts h = let P : List FactText → Type 0 = λ xs. SpellsLines ls xs in subst P (append-nil facts) (h.on [] refl)

-- lines that spell facts have no malformed line
no_fault : (ls : List (List ℕ)) (fs : List FactText) (n : ℕ) → SpellsLines ls fs → IsFirstMalformed ls n → ⊥
no_fault [] fs n h k = k
no_fault ([] ∷ ls) fs n h (inl k) = k.1.0 refl
no_fault ([] ∷ ls) fs n h (inr k) = no_fault ls fs k.1.0 h k.1.2
no_fault ((b ∷ bs) ∷ ls) fs n (f, rest, is, spells, h) (inl k) = k.1.1 f spells
no_fault ((b ∷ bs) ∷ ls) fs n (f, rest, is, spells, h) (inr k) = no_fault ls rest k.1.0 h k.1.2

pub only_target : (triple text : List ℕ) (result : Result Target CfgFault) → IfOk result (λ t. IsTarget triple text t) → IfErr result (λ fault. IsCfgFault text fault)
    → (t : Target) → IsTarget triple text t → (result ≡ Ok t) ⊎ (result ≡ Err Memory)
only_target triple text (Ok found) h k t s = inl (ap Ok (one_target triple text found t h s))
only_target triple text (Err Memory) h k t s = inr refl
only_target triple text (Err (Malformed line)) h k t s = absurd (no_fault (lines_of text) t.facts line s.1 k)

-- the number of remaining bytes, plus one for the line that they begin
abbrev pub size_left : Option (Bor (List ℕ)) → ℕ
size_left None = 0
size_left (Some rest) = length rest.now + 1

-- one more line was read
pub line_next : (ls rest : List (List ℕ)) (line : List ℕ) (number : ℕ) (old new : List FactText) → LinesRead ls (line ∷ rest) number old → ReadsLine true line old new → LinesRead ls rest (number + 1) new
line_next ls rest line number old new h (inl k) = let P : List FactText → Type 0 = λ xs. LinesRead ls rest (number + 1) xs in subst P (sym k.1) (empty_line ls rest line number old h k.0)
line_next ls rest line number old new h (inr k) = let P : List FactText → Type 0 = λ xs. LinesRead ls rest (number + 1) xs in subst P (sym k.1.2) (fact_line ls rest line number old k.1.0 h k.0 k.1.1)

pub line_fault : (ls rest : List (List ℕ)) (line : List ℕ) (number : ℕ) (old new : List FactText) → LinesRead ls (line ∷ rest) number old → ReadsLine false line old new → IsFirstMalformed ls (number + 1)
line_fault ls rest line number old new h k = malformed_line ls rest line number old h k.0 k.1

-- a text without a line feed is one piece
pub one_part : (bs : List ℕ) → position_or_len (λ b. b == 10) bs ≡ length bs → slice_split (λ b. b == 10) bs ≡ bs ∷ []
one_part bs e = slice_split_none (λ b. b == 10) bs (λ k d lt. fails_before_first (λ b. b == 10) bs k d (omega (arith, e, lt)))

-- the text before the first line feed, and the text after it
pub first_pieces : (bs line rest : List ℕ) → position_or_len (λ b. b == 10) bs < length bs → line ≡ before_first (λ b. b == 10) bs → rest ≡ after_first (λ b. b == 10) bs
    → slice_split (λ b. b == 10) bs ≡ line ∷ slice_split (λ b. b == 10) rest
first_pieces bs line rest lt a b = slice_split_first (λ b. b == 10) bs 0 lt ∙ ap (λ l. l ∷ slice_split (λ b. b == 10) (after_first (λ b. b == 10) bs)) (sym a) ∙ ap (λ l. line ∷ slice_split (λ b. b == 10) l) (sym b)

lines_of_pieces : (r : Option (Bor (List ℕ))) → map without_return (pieces_behind r) ≡ lines_behind r
lines_of_pieces None = refl
lines_of_pieces (Some rest) = refl

-- the first line, and the lines after it
pub first_lines : (bs piece line : List ℕ) (rest : Option (Bor (List ℕ))) → slice_split (λ b. b == 10) bs ≡ piece ∷ pieces_behind rest → line ≡ without_return piece → lines_of bs ≡ line ∷ lines_behind rest
first_lines bs piece line rest e w = ap (map without_return) e ∙ ap (λ l. without_return piece ∷ l) (lines_of_pieces rest) ∙ ap (λ l. l ∷ lines_behind rest) (sym w)

-- the carriage return at the end of a line is removed
taken : (rest : List ℕ) → without_return (rest ++ 13 ∷ []) ≡ rest
taken [] = refl
taken (b ∷ []) = refl
taken (b ∷ c ∷ bs) = ap (λ l. b ∷ l) (taken (c ∷ bs))

pub return_taken : (line rest : List ℕ) → line ≡ rest ++ 13 ∷ [] → rest ≡ without_return line
return_taken line rest e = sym (ap without_return e ∙ taken rest)

no_return : (b : ℕ) → ((front : List ℕ) → b ∷ [] ≡ front ++ 13 ∷ [] → ⊥) → b ∷ [] ≡ without_return (b ∷ [])
no_return b n = elim (eqb_tells b 13) [ inl h ↦ absurd (n [] (ap (λ d. d ∷ []) h.1)) | inr h ↦ sym (ap (λ t. cond t [] (b ∷ [])) h.0) ]

pub return_lacking : (line : List ℕ) → ((front : List ℕ) → line ≡ front ++ 13 ∷ [] → ⊥) → line ≡ without_return line
return_lacking [] n = refl
return_lacking (b ∷ []) n = no_return b n
return_lacking (b ∷ c ∷ bs) n = ap (λ l. b ∷ l) (return_lacking (c ∷ bs) (λ front e. n (b ∷ front) (ap (λ l. b ∷ l) e)))

-- one turn of the loop over lines
pub lines_step : (ls : List (List ℕ)) (r : Option (Bor (List ℕ))) (current : Bor (List ℕ)) (line : List ℕ) (behind : Option (Bor (List ℕ))) (number : ℕ) (old new : List FactText) (is_read : Bool)
    → LinesRead ls (lines_behind r) number old → r ≡ Some current → lines_of current.now ≡ line ∷ lines_behind behind → ReadsLine is_read line old new → is_read ≡ true
    → LinesRead ls (lines_behind behind) (number + 1) new
lines_step ls r current line behind number old new true h e k s t =
    let P : List (List ℕ) → Type 0 = λ l. LinesRead ls l number old in
    line_next ls (lines_behind behind) line number old new (subst P (ap lines_behind e ∙ k) h) s
lines_step ls r current line behind number old new false h e k s t = cc

pub lines_stop : (ls : List (List ℕ)) (r : Option (Bor (List ℕ))) (current : Bor (List ℕ)) (line : List ℕ) (behind : Option (Bor (List ℕ))) (number : ℕ) (old new : List FactText) (is_read : Bool)
    → LinesRead ls (lines_behind r) number old → r ≡ Some current → lines_of current.now ≡ line ∷ lines_behind behind → ReadsLine is_read line old new → is_read ≡ false
    → IsFirstMalformed ls (number + 1)
lines_stop ls r current line behind number old new false h e k s t =
    let P : List (List ℕ) → Type 0 = λ l. LinesRead ls l number old in
    line_fault ls (lines_behind behind) line number old new (subst P (ap lines_behind e ∙ k) h) s
lines_stop ls r current line behind number old new true h e k s t = cc

pub size_step : (r : Option (Bor (List ℕ))) (current : Bor (List ℕ)) (behind : Option (Bor (List ℕ))) (number total : ℕ) → number + size_left r ≤ total → r ≡ Some current
    → IfSome behind (λ x. length x.now < length current.now) → number + 1 + size_left behind ≤ total
size_step r current None number total h e k = omega (arith, h, ap size_left e)
size_step r current (Some x) number total h e k = omega (arith, h, ap size_left e, k)

pub lines_end : (ls : List (List ℕ)) (r : Option (Bor (List ℕ))) (number : ℕ) (facts : List FactText) → LinesRead ls (lines_behind r) number facts → ((x : Bor (List ℕ)) → r ≡ Some x → ⊥) → SpellsLines ls facts
lines_end ls None number facts h n = all_lines ls number facts h
lines_end ls (Some x) number facts h n = absurd (n x refl)
