-- A text that spells a fact is read as that fact.
use Rattle.std.proofs.Common.{◌≡◌, ℕ, ◌⊎◌, Bool, true, false, cond, not, ◌&&◌, List, [], ◌∷◌, ◌++◌, Option, Some, None, refl, ap, sym, ◌∙◌, inl, inr, append-nil, append_assoc}
use Rattle.std.specs.Prelude.{◌==◌, codes}
use Rattle.std.proofs.lemmas.Str.{encode_ascii}
use Rattle.std.specs.Char.{encode_utf8}
use Rattle.std.specs.Str.{encode_utf8_all, bytes_eq}
use Rattle.platform_specs.specs.Facts.{FactText}
use Rattle.platform_specs.specs.Grammar.{AllAre, is_space, begins_name, continues_name, is_in_string, is_operator, is_never, IsIdentifier, SpellsName, Spaced, SpellsItem, SpellsFact}
use Rattle.platform_specs.specs.inner.FactReading.{FactState, waiting, after_raw, naming, named, valued, quoted, whole, is_taken, past_name, fact_step, fact_end, fact_run}
use Rattle.platform_specs.proofs.Runs.{run_cons, run_past, run_stays, differs, same_char, continues_ascii, begins_ascii}

-- the bare names that are no facts
abbrev pub reserved_names : Bool → List ℕ → Bool
reserved_names true = is_operator
reserved_names false = is_never

pub taken_bare : (r : Bool) (name : List ℕ) → is_taken r false name ≡ reserved_names r name
taken_bare true name = refl
taken_bare false name = refl

pub taken_raw : (r : Bool) (name : List ℕ) → is_taken r true name ≡ false
taken_raw true name = refl
taken_raw false name = refl

-- one character of a name
naming_step : (r raw : Bool) (n : List ℕ) (c : ℕ) → continues_name c ≡ true → fact_step r (naming raw n) c ≡ Some (naming raw (n ++ c ∷ []))
naming_step r raw n c h =
    ap (λ b. cond b (Some (naming raw (n ++ encode_utf8 c))) (cond (c == 35) (cond (not raw && bytes_eq n (codes "r")) (Some after_raw) None) (past_name r raw n c))) h
    ∙ ap (λ e. Some (naming raw (n ++ e))) (encode_ascii c (continues_ascii c h))

pub begin_step : (r : Bool) (c : ℕ) → begins_name c ≡ true → fact_step r waiting c ≡ Some (naming false (c ∷ []))
begin_step r c h =
    ap (λ b. cond b (Some waiting) (cond (begins_name c) (Some (naming false (encode_utf8 c))) None)) (differs begins_name 32 c refl h)
    ∙ ap (λ b. cond b (Some (naming false (encode_utf8 c))) None) h
    ∙ ap (λ e. Some (naming false e)) (encode_ascii c (begins_ascii c h))

pub raw_step : (r : Bool) (c : ℕ) → begins_name c ≡ true → fact_step r after_raw c ≡ Some (naming true (c ∷ []))
raw_step r c h =
    ap (λ b. cond b (Some (naming true (encode_utf8 c))) None) h
    ∙ ap (λ e. Some (naming true e)) (encode_ascii c (begins_ascii c h))

pub space_step : (r : Bool) (s t : FactState) → fact_step r s 32 ≡ Some t → (c : ℕ) → is_space c ≡ true → fact_step r s c ≡ Some t
space_step r s t e c h = ap (fact_step r s) (same_char c 32 h) ∙ e

quoted_step : (r raw : Bool) (n v : List ℕ) (c : ℕ) → is_in_string c ≡ true → fact_step r (quoted raw n v) c ≡ Some (quoted raw n (v ++ encode_utf8 c))
quoted_step r raw n v c h = ap (λ b. cond b (Some (whole raw n v)) (Some (quoted raw n (v ++ encode_utf8 c)))) (no_quote (c == 34) h)
  where
    no_quote : (b : Bool) → cond b false true ≡ true → b ≡ false
    no_quote true k = cc
    no_quote false k = refl

-- the rest of a name
naming_run : (r raw : Bool) (n cs : List ℕ) → AllAre continues_name cs → fact_run r cs (naming raw n) ≡ Some (naming raw (n ++ cs))
naming_run r raw n [] h = ap (λ m. Some (naming raw m)) (sym (append-nil n))
naming_run r raw n (c ∷ cs) h =
    run_cons (fact_step r) c cs (naming raw n) _ (naming_step r raw n c h.0)
    ∙ naming_run r raw (n ++ c ∷ []) cs h.1
    ∙ ap (λ m. Some (naming raw m)) (append_assoc n (c ∷ []) cs)

-- the rest of a value
quoted_run : (r raw : Bool) (n v cs : List ℕ) → AllAre is_in_string cs → fact_run r cs (quoted raw n v) ≡ Some (quoted raw n (v ++ encode_utf8_all cs))
quoted_run r raw n v [] h = ap (λ m. Some (quoted raw n m)) (sym (append-nil v))
quoted_run r raw n v (c ∷ cs) h =
    run_cons (fact_step r) c cs (quoted raw n v) _ (quoted_step r raw n v c h.0)
    ∙ quoted_run r raw n (v ++ encode_utf8 c) cs h.1
    ∙ ap (λ m. Some (quoted raw n m)) (append_assoc v (encode_utf8 c) (encode_utf8_all cs))

-- a name, after `r#` or bare
pub record NameRead (r : Bool) (name text : List ℕ) : Type 0 where
  pub raw : Bool
  pub reads : fact_run r text waiting ≡ Some (naming raw name)
  pub free : is_taken r raw name ≡ false

pub bare_run : (r : Bool) (name : List ℕ) → IsIdentifier name → fact_run r name waiting ≡ Some (naming false name)
bare_run r [] h = absurd h
bare_run r (c ∷ cs) h = run_cons (fact_step r) c cs waiting _ (begin_step r c h.0) ∙ naming_run r false (c ∷ []) cs h.1

raw_run : (r : Bool) (name : List ℕ) → IsIdentifier name → fact_run r name after_raw ≡ Some (naming true name)
raw_run r [] h = absurd h
raw_run r (c ∷ cs) h = run_cons (fact_step r) c cs after_raw _ (raw_step r c h.0) ∙ naming_run r true (c ∷ []) cs h.1

mark_run : (r : Bool) (name : List ℕ) → fact_run r (codes "r#" ++ name) waiting ≡ fact_run r name after_raw
mark_run r name = run_cons (fact_step r) 114 (35 ∷ name) waiting _ (begin_step r 114 refl)
    ∙ run_cons (fact_step r) 35 name (naming false (114 ∷ [])) after_raw refl

pub name_run : (r : Bool) (name text : List ℕ) → SpellsName (reserved_names r) name text → NameRead r name text
name_run r name text h = elim h.1 [
  | inl bare ↦ record { raw = false; reads = ap (λ t. fact_run r t waiting) bare.0 ∙ bare_run r name h.0; free = taken_bare r name ∙ bare.1 }
  | inr marked ↦ record { raw = true; reads = ap (λ t. fact_run r t waiting) marked ∙ mark_run r name ∙ raw_run r name h.0; free = taken_raw r name }
]

-- spaces after a name
pub record GapRead (r raw : Bool) (name gap : List ℕ) : Type 0 where
  pub state : FactState
  pub reads : fact_run r gap (naming raw name) ≡ Some state
  pub is : (state ≡ naming raw name) ⊎ (state ≡ named raw name)

pub gap_run : (r raw : Bool) (name gap : List ℕ) → AllAre is_space gap → GapRead r raw name gap
gap_run r raw name [] h = record { state = naming raw name; reads = refl; is = inl refl }
gap_run r raw name (c ∷ cs) h = record {
  state = named raw name;
  reads = run_cons (fact_step r) c cs (naming raw name) (named raw name) (space_step r (naming raw name) _ refl c h.0)
      ∙ run_stays (fact_step r) is_space (named raw name) (space_step r (named raw name) _ refl) cs h.1;
  is = inr refl;
}

-- '=' after a name
equals_step : (r raw : Bool) (name : List ℕ) (s : FactState) → (s ≡ naming raw name) ⊎ (s ≡ named raw name) → is_taken r raw name ≡ false → fact_step r s 61 ≡ Some (valued raw name)
equals_step r raw name s is free = elim is [
  | inl e ↦ ap (λ t. fact_step r t 61) e ∙ ap (λ b. cond b None (Some (valued raw name))) free
  | inr e ↦ ap (λ t. fact_step r t 61) e ∙ ap (λ b. cond b None (Some (valued raw name))) free
]

-- a value after '='
value_run : (r raw : Bool) (name gap cs : List ℕ) → AllAre is_space gap → AllAre is_in_string cs
    → fact_run r (gap ++ (codes "\"" ++ (cs ++ codes "\""))) (valued raw name) ≡ Some (whole raw name (encode_utf8_all cs))
value_run r raw name gap cs g h =
    run_past (fact_step r) gap _ (valued raw name) (valued raw name) (run_stays (fact_step r) is_space (valued raw name) (space_step r (valued raw name) _ refl) gap g)
    ∙ run_past (fact_step r) cs (codes "\"") (quoted raw name []) _ (quoted_run r raw name [] cs h)

-- a fact, up to a position where it may end
pub record FactRead (r : Bool) (f : FactText) (text : List ℕ) : Type 0 where
  pub state : FactState
  pub reads : fact_run r text waiting ≡ Some state
  pub ends : fact_end r state ≡ Some f

item_run : (r : Bool) (name : List ℕ) (value : Option (List ℕ)) (text : List ℕ) → SpellsItem (reserved_names r) name value text → FactRead r (record { name = name; value = value }) text
item_run r name None text h = let n = name_run r name text h in record {
  state = naming n.raw name;
  reads = n.reads;
  ends = ap (λ b. cond b None (Some (record { name = name; value = None }))) n.free;
}
item_run r name (Some value) text (word, gap, rest, whole_text, spells, g, (gap', cs, rest_text, g', s, value_is)) =
    let n = name_run r name word spells in
    let k = gap_run r n.raw name gap g in
    record {
      state = whole n.raw name value;
      reads = ap (λ t. fact_run r t waiting) whole_text
          ∙ run_past (fact_step r) word (gap ++ rest) waiting _ n.reads
          ∙ run_past (fact_step r) gap rest (naming n.raw name) _ k.reads
          ∙ ap (λ t. fact_run r t k.state) rest_text
          ∙ run_cons (fact_step r) 61 _ k.state _ (equals_step r n.raw name k.state k.is n.free)
          ∙ value_run r n.raw name gap' cs g' s
          ∙ ap (λ v. Some (whole n.raw name v)) (sym value_is);
      ends = refl;
    }

-- spaces after a fact
end_stays : (r : Bool) (f : FactText) (s : FactState) (cs : List ℕ) → fact_end r s ≡ Some f → AllAre is_space cs → (t : FactState) × (fact_run r cs s ≡ Some t) × (fact_end r t ≡ Some f)
end_stays r f waiting cs e h = cc
end_stays r f after_raw cs e h = cc
end_stays r f (naming raw name) cs e h = let k = gap_run r raw name cs h in (k.state, k.reads, elim k.is [ inl i ↦ ap (fact_end r) i ∙ e | inr i ↦ ap (fact_end r) i ∙ e ])
end_stays r f (named raw name) cs e h = (named raw name, run_stays (fact_step r) is_space (named raw name) (space_step r (named raw name) _ refl) cs h, e)
end_stays r f (valued raw name) cs e h = cc
end_stays r f (quoted raw name value) cs e h = cc
end_stays r f (whole raw name value) cs e h = (whole raw name value, run_stays (fact_step r) is_space (whole raw name value) (space_step r (whole raw name value) _ refl) cs h, e)

pub spaces_before : (r : Bool) (cs : List ℕ) → AllAre is_space cs → fact_run r cs waiting ≡ Some waiting
spaces_before r cs h = run_stays (fact_step r) is_space waiting (space_step r waiting _ refl) cs h

pub fact_read : (r : Bool) (f : FactText) (text : List ℕ) → SpellsFact (reserved_names r) f text → FactRead r f text
fact_read r f text h = item_run r f.name f.value text h

pub fact_end_stays : (r : Bool) (f : FactText) (s : FactState) (cs : List ℕ) → fact_end r s ≡ Some f → AllAre is_space cs → (t : FactState) × (fact_run r cs s ≡ Some t) × (fact_end r t ≡ Some f)
fact_end_stays = end_stays

-- a fact with spaces around it
pub spaced_fact_read : (r : Bool) (f : FactText) (text : List ℕ) → Spaced (SpellsFact (reserved_names r) f) text → FactRead r f text
spaced_fact_read r f text (before, inner, after, parts, b, spells, a) =
    let k = fact_read r f inner spells in
    let l = end_stays r f k.state after k.ends a in
    record {
      state = l.0;
      reads = ap (λ t. fact_run r t waiting) parts
          ∙ run_past (fact_step r) before (inner ++ after) waiting waiting (spaces_before r before b)
          ∙ run_past (fact_step r) inner after waiting _ k.reads
          ∙ l.1;
      ends = l.2;
    }
