-- The texts of specs: the reader returns exactly the specs that they spell.
use Rattle.std.proofs.Common.{◌≡◌, ℕ, ◌-◌, ◌⊎◌, Bool, true, false, cond, List, [], ◌∷◌, ◌++◌, length, Option, Some, None, refl, ap, sym, subst, ◌∙◌, inl, inr, append_assoc, append-nil, arith, length-append}
use Rattle.std.specs.Prelude.{codes, Result, Ok, Err, IfOk, IfErr}
use Rattle.std.proofs.lemmas.Str.{encodes-chars, encodes-append, chars-append, IsUtf8-from_is_utf8}
use Rattle.std.specs.Str.{chars, encode_utf8_all, IsUtf8, is_utf8}
use Rattle.std.specs.Char.Unicode.Alphabetic.{is_alphabetic, alphabetic_ranges}
use Rattle.std.specs.Char.Unicode.Numeric.{is_numeric, numeric_ranges}
use Rattle.std.specs.Char.Unicode.Rows.{in_ranges}
use Rattle.std.specs.Option.{option_and_then}
use Rattle.platform_specs.specs.Expressions.{Expression, Spec, platform, cfg}
use Rattle.platform_specs.specs.Grammar.{AllAre, Spaced, Spells, SpellsSpec, IsSpecText, is_in_platform}
use Rattle.platform_specs.specs.Faults.{BeginsSpec, IsMalformedAt, IsSpecFault}
use Rattle.platform_specs.specs.inner.Parts.{parts_of, expression_of}
use Rattle.platform_specs.specs.Codes.{expression_of-parts_of}
use Rattle.platform_specs.specs.inner.Runs.{run}
use Rattle.platform_specs.specs.inner.Reading.{Place, Reading, finished, place_at, read_step, read_run, at_first}
use Rattle.platform_specs.specs.inner.FactReading.{FactState}
use Rattle.platform_specs.specs.inner.Positions.{Stopped, ReadAll, SpelledBy, Unfinished, IsUnread, platform_step}
use Rattle.platform_specs.specs.declared.expression_reader.Unread.{Unread}
use Rattle.platform_specs.specs.declared.expression_reader.Unread.TheVariants.{Left}
use Rattle.platform_specs.specs.declared.expression_reader.Unread.TheVariants as reader_faults
use Rattle.platform_specs.specs.declared.expression_reader.Stage.{Stage}
use Rattle.platform_specs.specs.declared.expression_reader.Stage.TheVariants.{Beginning, Item, Closed, Finished}
use Rattle.platform_specs.specs.declared.parts.Part.{Part}
use Rattle.platform_specs.specs.declared.fault.SpecFault.{SpecFault}
use Rattle.platform_specs.specs.declared.fault.SpecFault.TheVariants.{Malformed, Memory}
use Rattle.platform_specs.proofs.Runs.{run_past}
use Rattle.platform_specs.proofs.ReadRuns.{expression_read, at_place}
use Rattle.platform_specs.proofs.ReadSound.{Whole, ReadAt, read_sound}
use Rattle.platform_specs.proofs.Completes.{Completes, completes}

-- '(' is in no platform name; 'c', 'f' and 'g' may be
not_in_platform : is_in_platform 40 ≡ false
unfolding is_alphabetic is_numeric in_ranges alphabetic_ranges numeric_ranges
not_in_platform = refl

c_in_platform : is_in_platform 99 ≡ true
unfolding is_alphabetic is_numeric in_ranges alphabetic_ranges numeric_ranges
c_in_platform = refl

f_in_platform : is_in_platform 102 ≡ true
unfolding is_alphabetic is_numeric in_ranges alphabetic_ranges numeric_ranges
f_in_platform = refl

g_in_platform : is_in_platform 103 ≡ true
unfolding is_alphabetic is_numeric in_ranges alphabetic_ranges numeric_ranges
g_in_platform = refl

cfg_is_utf8 : is_utf8 (codes "cfg(") ≡ true
unfolding is_utf8 chars lib.Utf8.encode
cfg_is_utf8 = refl

cfg_own_chars : chars (codes "cfg(") ≡ codes "cfg("
unfolding chars
cfg_own_chars = refl

same_reading : (a b : Reading) → Some a ≡ Some b → a ≡ b
same_reading a b q = cc

-- one text spells one expression
same_parts : (a b : Expression) (x y : List ℕ) → x ≡ y → Spaced (Spells a) x → Spaced (Spells b) y → a ≡ b
same_parts a b x y e h k =
    let p : Some (at_place finished [] (parts_of a)) ≡ Some (at_place finished [] (parts_of b)) =
    sym (expression_read a x h) ∙ ap (λ l. read_run (l ++ codes ")") at_first) e ∙ expression_read b y k in
    sym (expression_of-parts_of a) ∙ ap expression_of (ap (λ (y : Reading). y.parts) (same_reading _ _ p)) ∙ expression_of-parts_of b

last_same : (x y : List ℕ) (c : ℕ) → x ++ c ∷ [] ≡ y ++ c ∷ [] → x ≡ y
last_same [] [] c e = refl
last_same [] (b ∷ []) c e = cc
last_same [] (b ∷ d ∷ ys) c e = cc
last_same (a ∷ []) [] c e = cc
last_same (a ∷ d ∷ xs) [] c e = cc
last_same (a ∷ xs) (b ∷ ys) c e = let k = last_same xs ys c (tails e) in let h : a ≡ b = cc in cc
  where
    tails : a ∷ (xs ++ c ∷ []) ≡ b ∷ (ys ++ c ∷ []) → xs ++ c ∷ [] ≡ ys ++ c ∷ []
    tails q = cc

-- a platform name has no '('
no_bracket : (front rest : List ℕ) → AllAre is_in_platform (99 ∷ 102 ∷ 103 ∷ 40 ∷ rest) → ⊥
no_bracket front rest h = let e : true ≡ false = sym h.1.1.1.0 ∙ not_in_platform in cc

cfg_no_name : (text inner : List ℕ) → text ≡ codes "cfg(" ++ inner → AllAre is_in_platform text → ⊥
cfg_no_name text inner e h = no_bracket [] inner (let P : List ℕ → Type 0 = AllAre is_in_platform in subst P e h)

behind : {x y : List ℕ} → codes "cfg(" ++ x ≡ codes "cfg(" ++ y → x ≡ y
behind e = cc

-- the grammar is unambiguous
pub one_spec : (text : List ℕ) (a b : Spec) → SpellsSpec a text → SpellsSpec b text → a ≡ b
one_spec text (platform m) (platform n) h k = ap platform (h.1 ∙ sym k.1)
one_spec text (platform m) (cfg e) h k = absurd (cfg_no_name text (k.0 ++ codes ")") k.1 h.0)
one_spec text (cfg e) (platform m) h k = absurd (cfg_no_name text (h.0 ++ codes ")") h.1 k.0)
one_spec text (cfg a) (cfg b) h k = ap cfg (same_parts a b h.0 k.0 (last_same h.0 k.0 41 (behind (sym h.1 ∙ k.1))) h.2 k.2)

-- the characters of a text after `cfg(`
pub cfg_chars : (text rest : List ℕ) → text ≡ codes "cfg(" ++ rest → chars text ≡ codes "cfg(" ++ chars rest
cfg_chars text rest e = ap chars e ∙ chars-append (codes "cfg(") rest (IsUtf8-from_is_utf8 (codes "cfg(") cfg_is_utf8) ∙ ap (λ l. l ++ chars rest) cfg_own_chars

-- the expression read after `cfg(` is the text's spec
pub found_cfg : (text rest : List ℕ) (ps : List Part) → text ≡ codes "cfg(" ++ rest → SpelledBy rest ps → IsSpecText text (cfg (expression_of ps))
found_cfg text rest ps e h = (h.inner, cfg_chars text rest e ∙ ap (λ l. codes "cfg(" ++ l) h.parts, h.spells)

pub spelled_by : (text : List ℕ) (r : Reading) → read_run (chars text) at_first ≡ Some r → r.place ≡ finished → SpelledBy text r.parts
spelled_by text r e f =
    let P : Place → Type 0 = λ place. ReadAt place r.open_ones r.parts (chars text) in
    let w : Whole r.parts (chars text) = subst P f (read_sound (chars text) r e) in
    let back : expression_of r.parts ≡ w.e = ap expression_of w.marks ∙ expression_of-parts_of w.e in
    record {
      inner = w.inner;
      parts = w.parts;
      spells = (let Q : Expression → Type 0 = λ x. Spaced (Spells x) w.inner in subst Q (sym back) w.spells);
      marks = ap parts_of back ∙ sym w.marks;
    }

-- the text of some spec begins with the characters that were read
begins_cfg : (front : List ℕ) (r : Reading) → read_run front at_first ≡ Some r → BeginsSpec (codes "cfg(" ++ front)
begins_cfg front r e =
    let k : Completes r = completes r.place r.open_ones r.parts in
    let all : read_run (front ++ k.more) at_first ≡ Some k.state = run_past read_step front k.more at_first r e ∙ k.reads in
    let P : Place → Type 0 = λ place. ReadAt place k.state.open_ones k.state.parts (front ++ k.more) in
    let w : Whole k.state.parts (front ++ k.more) = subst P k.ends (read_sound (front ++ k.more) k.state all) in
    (k.more, cfg w.e, (w.inner, ap (λ l. codes "cfg(" ++ l) w.parts, w.spells))

-- if the reader can't go on, no spec's text does
ends_cfg : (front more : List ℕ) (c : ℕ) (r : Reading) (spec : Spec) → read_run front at_first ≡ Some r → read_step r c ≡ None → SpellsSpec spec (codes "cfg(" ++ (front ++ c ∷ more)) → ⊥
ends_cfg front more c r (platform name) e n h = no_bracket [] (front ++ c ∷ more) h.0
ends_cfg front more c r (cfg x) e n (inner, parts, h) =
    let stuck : read_run (front ++ c ∷ more) at_first ≡ None = run_past read_step front (c ∷ more) at_first r e ∙ ap (option_and_then (read_run more)) n in
    let whole : read_run (front ++ c ∷ more) at_first ≡ Some (at_place finished [] (parts_of x)) = ap (λ l. read_run l at_first) (behind parts) ∙ expression_read x inner h in
    let clash : none ≡ Some (at_place finished [] (parts_of x)) = sym stuck ∙ whole in
    cc
  where
    none : Option Reading
    none = None

regroup : (front more : List ℕ) (c : ℕ) → ((codes "cfg(" ++ front) ++ c ∷ []) ++ more ≡ codes "cfg(" ++ (front ++ c ∷ more)
regroup front more c = simp append_assoc

left_place : (text front rest : List ℕ) (left : ℕ) → IsUtf8 text → chars text ≡ front ++ rest → left ≡ length (encode_utf8_all rest) → length text - left ≡ length (encode_utf8_all front)
left_place text front rest left u e l =
    let k : length text ≡ length (encode_utf8_all front ++ encode_utf8_all rest) = ap length (sym (encodes-chars text u) ∙ ap encode_utf8_all e ∙ encodes-append front rest) in
    omega (arith, k, l, length-append (encode_utf8_all front) (encode_utf8_all rest))

pub stopped_cfg : (text rest : List ℕ) (left : ℕ) → IsUtf8 text → text ≡ codes "cfg(" ++ rest → Stopped read_step at_first rest left → IsMalformedAt text (length text - left)
stopped_cfg text rest left u e h =
    let cs : chars text ≡ (codes "cfg(" ++ h.front) ++ h.c ∷ h.rest = cfg_chars text rest e ∙ ap (λ l. codes "cfg(" ++ l) h.parts in
    record {
      front = codes "cfg(" ++ h.front;
      rest = h.c ∷ h.rest;
      parts = cs;
      place = left_place text (codes "cfg(" ++ h.front) (h.c ∷ h.rest) left u cs h.place;
      begins = begins_cfg h.front h.state h.reads;
      ends = λ (more, spec, k). ends_cfg h.front more h.c h.state spec h.reads h.stops (let P : List ℕ → Type 0 = SpellsSpec spec in subst P (regroup h.front more h.c) k);
      unread = λ spec k. ends_cfg h.front h.rest h.c h.state spec h.reads h.stops (let P : List ℕ → Type 0 = SpellsSpec spec in subst P cs k);
    }

place_same : (a b : Reading) → Some a ≡ Some b → a.place ≡ b.place
place_same a b q = ap (λ (y : Reading). y.place) (same_reading a b q)

unfinished_spec : (cs : List ℕ) (r : Reading) (spec : Spec) → read_run cs at_first ≡ Some r → (r.place ≡ finished → ⊥) → SpellsSpec spec (codes "cfg(" ++ cs) → ⊥
unfinished_spec cs r (platform name) e n h = no_bracket [] cs h.0
unfinished_spec cs r (cfg x) e n (inner, parts, h) =
    n (place_same r (at_place finished [] (parts_of x)) (sym e ∙ ap (λ l. read_run l at_first) (behind parts) ∙ expression_read x inner h))

pub unfinished_cfg : (text rest : List ℕ) → IsUtf8 text → text ≡ codes "cfg(" ++ rest → Unfinished rest → IsMalformedAt text (length text - 0)
unfinished_cfg text rest u e h =
    let cs : chars text ≡ (codes "cfg(" ++ chars rest) ++ [] = cfg_chars text rest e ∙ sym (append-nil (codes "cfg(" ++ chars rest)) in
    record {
      front = codes "cfg(" ++ chars rest;
      rest = [];
      parts = cs;
      place = left_place text (codes "cfg(" ++ chars rest) [] 0 u cs refl;
      begins = begins_cfg (chars rest) h.state h.reads;
      ends = tt;
      unread = λ spec k. unfinished_spec (chars rest) h.state spec h.reads h.open_yet (let P : List ℕ → Type 0 = SpellsSpec spec in subst P (cfg_chars text rest e) k);
    }

-- a text whose characters are all read is a platform name
name_option : (c : ℕ) (cs : List ℕ) → (run platform_step cs tt ≡ Some tt → AllAre is_in_platform cs) → (b : Bool) → is_in_platform c ≡ b
    → option_and_then (run platform_step cs) (cond b (Some tt) None) ≡ Some tt → AllAre is_in_platform (c ∷ cs)
name_option c cs rest true t k = (t, rest k)
name_option c cs rest false t k = cc

pub name_sound : (cs : List ℕ) → run platform_step cs tt ≡ Some tt → AllAre is_in_platform cs
name_sound [] e = tt
name_sound (c ∷ cs) e = name_option c cs (name_sound cs) (is_in_platform c) refl e

pub found_name : (text name : List ℕ) → IsUtf8 text → name ≡ text → ReadAll platform_step tt text tt → IsSpecText text (platform name)
found_name text name u e h = (name_sound (chars text) h.reads, e ∙ sym (encodes-chars text u))

all_middle : (front more : List ℕ) (c : ℕ) → AllAre is_in_platform (front ++ c ∷ more) → is_in_platform c ≡ true
all_middle [] more c h = h.0
all_middle (d ∷ ds) more c h = all_middle ds more c h.1

-- a text that leaves the platform names inside `cfg(` does so at its '('
cfg_front : (front more ys : List ℕ) (c : ℕ) → AllAre is_in_platform front → is_in_platform c ≡ false → front ++ c ∷ more ≡ codes "cfg(" ++ ys → (front ≡ codes "cfg") × (c ≡ 40)
cfg_front [] more ys c h n e = absurd (clash c_in_platform n (firsts e))
  where
    firsts : c ∷ more ≡ 99 ∷ 102 ∷ 103 ∷ 40 ∷ ys → c ≡ 99
    firsts q = cc

    clash : is_in_platform 99 ≡ true → is_in_platform c ≡ false → c ≡ 99 → ⊥
    clash t f q = let k : true ≡ false = sym t ∙ ap is_in_platform (sym q) ∙ f in cc
cfg_front (a ∷ []) more ys c h n e = absurd (clash f_in_platform n (seconds e))
  where
    seconds : a ∷ c ∷ more ≡ 99 ∷ 102 ∷ 103 ∷ 40 ∷ ys → c ≡ 102
    seconds q = cc

    clash : is_in_platform 102 ≡ true → is_in_platform c ≡ false → c ≡ 102 → ⊥
    clash t f q = let k : true ≡ false = sym t ∙ ap is_in_platform (sym q) ∙ f in cc
cfg_front (a ∷ b ∷ []) more ys c h n e = absurd (clash g_in_platform n (thirds e))
  where
    thirds : a ∷ b ∷ c ∷ more ≡ 99 ∷ 102 ∷ 103 ∷ 40 ∷ ys → c ≡ 103
    thirds q = cc

    clash : is_in_platform 103 ≡ true → is_in_platform c ≡ false → c ≡ 103 → ⊥
    clash t f q = let k : true ≡ false = sym t ∙ ap is_in_platform (sym q) ∙ f in cc
cfg_front (a ∷ b ∷ d ∷ []) more ys c h n e = (fronts e, lasts e)
  where
    fronts : a ∷ b ∷ d ∷ c ∷ more ≡ 99 ∷ 102 ∷ 103 ∷ 40 ∷ ys → a ∷ b ∷ d ∷ [] ≡ 99 ∷ 102 ∷ 103 ∷ []
    fronts q = cc

    lasts : a ∷ b ∷ d ∷ c ∷ more ≡ 99 ∷ 102 ∷ 103 ∷ 40 ∷ ys → c ≡ 40
    lasts q = cc
cfg_front (a ∷ b ∷ d ∷ x ∷ front) more ys c h n e = absurd (clash h.1.1.1.0 (fourths e))
  where
    fourths : a ∷ b ∷ d ∷ x ∷ (front ++ c ∷ more) ≡ 99 ∷ 102 ∷ 103 ∷ 40 ∷ ys → x ≡ 40
    fourths q = cc

    clash : is_in_platform x ≡ true → x ≡ 40 → ⊥
    clash t q = let k : true ≡ false = sym t ∙ ap is_in_platform q ∙ not_in_platform in cc

ascii_cfg : (cs : List ℕ) → encode_utf8_all (codes "cfg(" ++ cs) ≡ codes "cfg(" ++ encode_utf8_all cs
ascii_cfg cs = encodes-append (codes "cfg(") cs ∙ ap (λ l. l ++ encode_utf8_all cs) (ap encode_utf8_all (sym cfg_own_chars) ∙ encodes-chars (codes "cfg(") (IsUtf8-from_is_utf8 (codes "cfg(") cfg_is_utf8))

abbrev read_if : Bool → Option (Unit {0})
read_if b = cond b (Some tt) None

abbrev not_read : Option (Unit {0})
not_read = None

fails : (b : Bool) → read_if b ≡ not_read → b ≡ false
fails true e = cc
fails false e = refl

-- a character that can't be read isn't one of a platform name
stops_at : (c : ℕ) → platform_step tt c ≡ None → is_in_platform c ≡ false
stops_at c e = fails (is_in_platform c) e

ends_name : (text front rest more : List ℕ) (c : ℕ) (spec : Spec) → IsUtf8 text → ((r : List ℕ) → text ≡ codes "cfg(" ++ r → ⊥) → chars text ≡ front ++ c ∷ rest
    → AllAre is_in_platform front → is_in_platform c ≡ false → SpellsSpec spec (front ++ c ∷ more) → ⊥
ends_name text front rest more c (platform name) u other e h n k = let q : true ≡ false = sym (all_middle front more c k.0) ∙ n in cc
ends_name text front rest more c (cfg x) u other e h n (inner, parts, k) =
    let (f, d) = cfg_front front more (inner ++ codes ")") c h n parts in
    other (encode_utf8_all rest) (sym (encodes-chars text u) ∙ ap encode_utf8_all (e ∙ ap (λ l. l ++ c ∷ rest) f ∙ ap (λ y. codes "cfg" ++ (y ∷ rest)) d) ∙ ascii_cfg rest)

pub stopped_name : (text : List ℕ) (left : ℕ) → IsUtf8 text → ((r : List ℕ) → text ≡ codes "cfg(" ++ r → ⊥) → Stopped platform_step tt text left → IsMalformedAt text (length text - left)
stopped_name text left u other h =
    let all : AllAre is_in_platform h.front = name_sound h.front h.reads in
    let n : is_in_platform h.c ≡ false = stops_at h.c h.stops in
    record {
      front = h.front;
      rest = h.c ∷ h.rest;
      parts = h.parts;
      place = left_place text h.front (h.c ∷ h.rest) left u h.parts h.place;
      begins = ([], platform (encode_utf8_all (h.front ++ [])), ((let P : List ℕ → Type 0 = AllAre is_in_platform in subst P (sym (append-nil h.front)) all), refl));
      ends = λ (more, spec, k). ends_name text h.front h.rest more h.c spec u other h.parts all n (let P : List ℕ → Type 0 = SpellsSpec spec in subst P (append_assoc h.front (h.c ∷ []) more) k);
      unread = λ spec k. ends_name text h.front h.rest h.rest h.c spec u other h.parts all n (let P : List ℕ → Type 0 = SpellsSpec spec in subst P h.parts k);
    }

-- a spec that the text spells is returned, unless an allocation fails
pub only_spec : (text : List ℕ) (result : Result Spec SpecFault) → IfOk result (λ spec. IsSpecText text spec) → IfErr result (λ fault. IsSpecFault text fault)
    → (spec : Spec) → IsSpecText text spec → (result ≡ Ok spec) ⊎ (result ≡ Err Memory)
only_spec text (Ok found) h k spec s = inl (ap Ok (one_spec (chars text) found spec h s))
only_spec text (Err Memory) h k spec s = inr refl
only_spec text (Err (Malformed at)) h k spec s = absurd (k.unread spec s)

pub place_finished : (s : Stage) (f : FactState) → place_at s f ≡ finished → s ≡ Finished
place_finished (Beginning may_close) f e = cc
place_finished Item f e = cc
place_finished Closed f e = cc
place_finished Finished f e = refl

-- the fault of a text that begins with `cfg(`
pub unread_cfg : (text rest : List ℕ) (u : Unread) (left : ℕ) → IsUtf8 text → text ≡ codes "cfg(" ++ rest → IsUnread rest u → u ≡ Left left → IsMalformedAt text (length text - left)
unread_cfg text rest reader_faults.Memory left u e h is = cc
unread_cfg text rest (Left k) left u e h is =
    let P : ℕ → Type 0 = λ n. IsMalformedAt text (length text - n) in
    subst P (same is) (elim h.1 [
      | inl s ↦ stopped_cfg text rest k u e s
      | inr z ↦ let Q : ℕ → Type 0 = λ n. IsMalformedAt text (length text - n) in subst Q (sym z.0) (unfinished_cfg text rest u e z.1)
    ])
  where
    same : Left k ≡ Left left → k ≡ left
    same q = cc
