-- How the last line of a text begins.
use Rattle.std.proofs.Common.{◌≡◌, ℕ, [], ◌∷◌, ◌++◌, Bool, true, false, Option, None, Some, refl, sym, ap, ◌∙◌, subst, if◌then◌else◌, codes}
use Rattle.std.specs.Prelude.{◌==◌, ◌&&◌}
use Rattle.cargo_workspaces.specs.Workspaces.{Text}
use Rattle.shown_texts.specs.Shown.{escaped}
use Rattle.plan_names.specs.wider.texts.Lines.{SaidText, closing, head_line, heading, indented_from, is_line_feed, message_line, not_planned, off, on_by, said_lines, sentence, unbuilt, why_not_lines, widening_lines}
use Rattle.plan_names.specs.wider.texts.Laws.{SentenceSaysOff}
use Rattle.plan_names.specs.declared.wider.widenings.widening.Widening.{Widening}
use Rattle.plan_names.specs.declared.wider.widenings.widening.Widening.TheVariants as widening

-- A line has no byte yet, begins with an `n` as the sentence does, or with another byte.
data Line : Type 0 where
  empty : Line
  marked : Line
  plain : Line

abbrev is_marked : Line → Bool
is_marked empty = false
is_marked marked = true
is_marked plain = false

-- Whether the last line that ended begins with an `n`, and the line after it.
record Lines : Type 0 where
  ended : Bool
  line : Line

abbrev begun : Bool → Line
begun n = if n then marked else plain

abbrev with_byte : ℕ → Line → Line
with_byte c empty = begun (c == 110)
with_byte c marked = marked
with_byte c plain = plain

abbrev after_byte : Bool → ℕ → Lines → Lines
after_byte true c s = record { ended = is_marked s.line; line = empty }
after_byte false c s = record { ended = s.ended; line = with_byte c s.line }

abbrev scan : Lines → Text → Lines
scan s [] = s
scan s (c ∷ cs) = scan (after_byte (is_line_feed c) c s) cs

scan_append : (s : Lines) (a b : Text) → scan s (a ++ b) ≡ scan (scan s a) b
scan_append s [] b = refl
scan_append s (c ∷ a) b = scan_append (after_byte (is_line_feed c) c s) a b

abbrev at : Bool → Line → Lines
at ended line = record { ended = ended; line = line }

-- After the sentence.
after_sentence : (s : Lines) → scan s (10 ∷ (sentence ++ 10 ∷ [])) ≡ at true empty
after_sentence s = refl

-- After lines that aren't the sentence: the next line is empty, or begins with another byte. `ended` is whether the line that ended before
-- them begins with an `n`.
abbrev other : Bool → Line
other starts = if starts then empty else plain

record IsOther (ended : Bool) (s : Lines) : Type 0 where
  starts : Bool
  still : Bool
  are_lines : s ≡ at (ended && still) (other starts)

and_false : (b : Bool) → false ≡ (b && false)
and_false true = refl
and_false false = refl

and_true : (b : Bool) → b ≡ (b && true)
and_true true = refl
and_true false = refl

-- from the beginning of a line
anew : (ended : Bool) (s : Lines) → IsOther false s → IsOther ended s
anew ended s h = record { starts = h.starts; still = false; are_lines = h.are_lines ∙ ap (λ b. at b (other h.starts)) (and_false ended) }

after_other : (ended : Bool) (c : ℕ) (cs : Text) → ((e starts : Bool) → IsOther e (scan (at e (other starts)) (indented_from starts cs)))
    → IsOther ended (scan (at ended plain) (c ∷ indented_from (is_line_feed c) cs))
after_other ended c cs more = go (is_line_feed c)
  where
    go : (b : Bool) → IsOther ended (scan (after_byte b c (at ended plain)) (indented_from b cs))
    go true = anew ended (scan (at false empty) (indented_from true cs)) (more false true)
    go false = more ended false

after_indented : (ended starts : Bool) (cs : Text) → IsOther ended (scan (at ended (other starts)) (indented_from starts cs))
after_indented ended starts [] = record { starts = starts; still = true; are_lines = ap (λ b. at b (other starts)) (and_true ended) }
after_indented ended true (c ∷ cs) = after_other ended c cs (λ e starts. after_indented e starts cs)
after_indented ended false (c ∷ cs) = after_other ended c cs (λ e starts. after_indented e starts cs)

after_heading : (ended starts : Bool) (v : Widening) → scan (at ended (other starts)) (heading v) ≡ at ended plain
after_heading ended true widening.AllFeatures = refl
after_heading ended false widening.AllFeatures = refl
after_heading ended true widening.AllMembers = refl
after_heading ended false widening.AllMembers = refl
after_heading ended true widening.Tests = refl
after_heading ended false widening.Tests = refl
after_heading ended true widening.EveryPlatform = refl
after_heading ended false widening.EveryPlatform = refl
after_heading ended true widening.Together = refl
after_heading ended false widening.Together = refl

-- a line feed after such lines
after_feed : (ended : Bool) (s : Lines) → IsOther ended s → scan s (codes "\n") ≡ at false empty
after_feed ended s h = ap (λ z. scan z (codes "\n")) h.are_lines ∙ go h.starts
  where
    go : (starts : Bool) → scan (at (ended && h.still) (other starts)) (codes "\n") ≡ at false empty
    go true = refl
    go false = refl

-- what is said of a widening
after_message : (ended : Bool) (begins message : Text) → scan (at ended plain) begins ≡ at ended plain
    → IsOther false (scan (at ended plain) (message_line begins message))
after_message ended begins message first = record {
  starts = true;
  still = true;
  are_lines = scan_append (at ended plain) begins (indented_from false message ++ codes "\n")
      ∙ ap (λ s. scan s (indented_from false message ++ codes "\n")) first
      ∙ scan_append (at ended plain) (indented_from false message) (codes "\n")
      ∙ after_feed ended (scan (at ended plain) (indented_from false message)) (after_indented ended false message);
}

after_said : (ended : Bool) (said : SaidText) → IsOther false (scan (at ended plain) (said_lines said))
after_said ended (on_by lines) = subst (λ s. IsOther false s) (sym (scan_append (at ended plain) (codes ": on\n") (indented_from true lines))) (after_indented false true lines)
after_said ended (unbuilt message) = after_message ended (codes ": ") message refl
after_said ended off = record { starts = true; still = true; are_lines = refl }
after_said ended (not_planned message) = after_message ended (codes ": not planned: ") message refl

-- Whether the sentence follows.
abbrev is_closed : Widening → SaidText → Bool
is_closed widening.Together off = true
is_closed _ _ = false

no_closing : (v : Widening) (said : SaidText) → is_closed v said ≡ false → closing v said ≡ []
no_closing widening.AllFeatures said h = refl
no_closing widening.AllMembers said h = refl
no_closing widening.Tests said h = refl
no_closing widening.EveryPlatform said h = refl
no_closing widening.Together (on_by lines) h = refl
no_closing widening.Together (unbuilt message) h = refl
no_closing widening.Together off h = absurd (cc)
no_closing widening.Together (not_planned message) h = refl

appended_none : (a : Text) → a ++ [] ≡ a
appended_none [] = refl
appended_none (c ∷ a) = ap (λ z. c ∷ z) (appended_none a)

-- the lines about a widening, without the sentence
after_widening : (ended starts : Bool) (v : Widening) (said : SaidText) → is_closed v said ≡ false
    → IsOther false (scan (at ended (other starts)) (widening_lines v said))
after_widening ended starts v said h = subst (λ s. IsOther false s) (sym steps) (after_said ended said)
  where
    steps : scan (at ended (other starts)) (widening_lines v said) ≡ scan (at ended plain) (said_lines said)
    steps = scan_append (at ended (other starts)) (heading v) (said_lines said ++ closing v said)
        ∙ ap (λ s. scan s (said_lines said ++ closing v said)) (after_heading ended starts v)
        ∙ ap (λ z. scan (at ended plain) (said_lines said ++ z)) (no_closing v said h)
        ∙ ap (λ z. scan (at ended plain) z) (appended_none (said_lines said))

-- the line that begins an answer
record IsBegun (s : Lines) : Type 0 where
  ended : Bool
  are_lines : s ≡ at ended empty

after_line : (s : Lines) (line : Text) → IsBegun (scan s (line ++ codes "\n"))
after_line s line = record { ended = is_marked (scan s line).line; are_lines = scan_append s line (codes "\n") }

after_head : (name : Text) (message : Option Text) → IsBegun (scan (at false empty) (head_line name message))
after_head name None =
    subst (λ s. IsBegun s) (sym (scan_append (at false empty) (escaped name) (codes " is off\n"))) (after_line (scan (at false empty) (escaped name)) (codes " is off"))
after_head name (Some message) =
    subst (λ s. IsBegun s) (sym (scan_append (at false empty) (escaped name) (message_line (codes " is ") message)
    ∙ scan_append (scan (at false empty) (escaped name)) (codes " is ") (indented_from false message ++ codes "\n")))
    (after_line (scan (scan (at false empty) (escaped name)) (codes " is ")) (indented_from false message))

-- THE WHOLE TEXT, if the sentence doesn't follow all widenings together.
then_widening : (v : Widening) (said : SaidText) → is_closed v said ≡ false → (s : Lines) → IsOther false s → IsOther false (scan s (widening_lines v said))
then_widening v said h s before = subst (λ z. IsOther false (scan z (widening_lines v said))) (sym before.are_lines) (after_widening false before.starts v said h)

after_text : (name : Text) (message : Option Text) (said : Widening → SaidText) → is_closed widening.Together (said widening.Together) ≡ false
    → IsOther false (scan (at false empty) (why_not_lines name message said))
after_text name message said h =
    let lines = λ (v : Widening). widening_lines v (said v) in
    let a = after_head name message in
    let first = after_widening a.ended true widening.AllFeatures (said widening.AllFeatures) refl in
    let second = then_widening widening.AllMembers (said widening.AllMembers) refl _ first in
    let third = then_widening widening.Tests (said widening.Tests) refl _ second in
    let fourth = then_widening widening.EveryPlatform (said widening.EveryPlatform) refl _ third in
    let fifth = then_widening widening.Together (said widening.Together) h _ fourth in
    subst (λ s. IsOther false s) (sym (
    scan_append (at false empty) (head_line name message) (lines widening.AllFeatures ++ (lines widening.AllMembers ++ (lines widening.Tests ++ (lines widening.EveryPlatform ++ (lines widening.Together ++ [])))))
    ∙ ap (λ s. scan s (lines widening.AllFeatures ++ (lines widening.AllMembers ++ (lines widening.Tests ++ (lines widening.EveryPlatform ++ (lines widening.Together ++ [])))))) a.are_lines
    ∙ scan_append (at a.ended empty) (lines widening.AllFeatures) (lines widening.AllMembers ++ (lines widening.Tests ++ (lines widening.EveryPlatform ++ (lines widening.Together ++ []))))
    ∙ scan_append _ (lines widening.AllMembers) (lines widening.Tests ++ (lines widening.EveryPlatform ++ (lines widening.Together ++ [])))
    ∙ scan_append _ (lines widening.Tests) (lines widening.EveryPlatform ++ (lines widening.Together ++ []))
    ∙ scan_append _ (lines widening.EveryPlatform) (lines widening.Together ++ [])
    ∙ scan_append _ (lines widening.Together) [])) fifth

-- the answer after which the sentence is
closed_is_off : (said : SaidText) → is_closed widening.Together said ≡ true → said ≡ off
closed_is_off (on_by lines) h = absurd (cc)
closed_is_off (unbuilt message) h = absurd (cc)
closed_is_off off h = refl
closed_is_off (not_planned message) h = absurd (cc)

pub sentence_says_off : SentenceSaysOff
sentence_says_off name message said ends = go (is_closed widening.Together (said widening.Together)) refl
  where
    marked_end : scan (at false empty) (why_not_lines name message said) ≡ at true empty
    marked_end =
        ap (λ z. scan (at false empty) z) ends.1
        ∙ scan_append (at false empty) ends.0 (10 ∷ (sentence ++ 10 ∷ []))
        ∙ after_sentence (scan (at false empty) ends.0)

    go : (b : Bool) → is_closed widening.Together (said widening.Together) ≡ b → said widening.Together ≡ off
    go true e = closed_is_off (said widening.Together) e
    go false e =
        let h = after_text name message said e in
        let clash : true ≡ false = ap (λ (s : Lines). s.ended) (sym marked_end ∙ h.are_lines) in
        absurd (cc)
