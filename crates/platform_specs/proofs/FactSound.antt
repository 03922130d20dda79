-- The characters that are read as a fact spell that fact.
use Rattle.std.proofs.Common.{◌≡◌, ℕ, Bool, true, false, cond, not, ◌&&◌, List, [], ◌∷◌, ◌++◌, Option, Some, None, refl, ap, sym, subst, ◌∙◌, inl, inr, append-nil, append_assoc}
use Rattle.std.specs.Prelude.{◌==◌, codes}
use Rattle.std.proofs.lemmas.Str.{encode_ascii, encodes-append}
use Rattle.std.proofs.lemmas.Slice.Eq.{bytes_eq-Decides}
use Rattle.std.specs.Char.{encode_utf8}
use Rattle.std.specs.Str.{encode_utf8_all, bytes_eq}
use Rattle.platform_specs.specs.Facts.{FactText}
use Rattle.platform_specs.specs.Grammar.{AllAre, is_space, begins_name, continues_name, is_in_string, IsIdentifier, SpellsName, Spaced, SpellsFact}
use Rattle.platform_specs.specs.inner.FactReading.{FactState, waiting, after_raw, naming, named, valued, quoted, whole, is_taken, name_step, past_name, fact_step, fact_end, fact_run}
use Rattle.platform_specs.proofs.Runs.{run_keeps, chosen, same_char, continues_ascii, begins_ascii}
use Rattle.platform_specs.proofs.FactRuns.{reserved_names, taken_bare}

pub all_snoc : (p : ℕ → Bool) (cs : List ℕ) (c : ℕ) → AllAre p cs → p c ≡ true → AllAre p (cs ++ c ∷ [])
all_snoc p [] c h t = (t, tt)
all_snoc p (d ∷ ds) c h t = (h.0, all_snoc p ds c h.1 t)

identifier_snoc : (n : List ℕ) (c : ℕ) → IsIdentifier n → continues_name c ≡ true → IsIdentifier (n ++ c ∷ [])
identifier_snoc [] c h t = absurd h
identifier_snoc (d ∷ ds) c h t = (h.0, all_snoc continues_name ds c h.1 t)

-- spaces, then a text with the property `P`
pub record After (P : List ℕ → Type 0) (p : List ℕ) : Type 0 where
  pub before : List ℕ
  pub word : List ℕ
  pub parts : p ≡ before ++ word
  pub spaces : AllAre is_space before
  pub has : P word

-- one more character of that text
after_more : (P Q : List ℕ → Type 0) (p : List ℕ) (c : ℕ) → After P p → ((w : List ℕ) → P w → Q (w ++ c ∷ [])) → After Q (p ++ c ∷ [])
after_more P Q p c h more = record {
  before = h.before;
  word = h.word ++ c ∷ [];
  parts = ap (λ l. l ++ c ∷ []) h.parts ∙ append_assoc h.before h.word (c ∷ []);
  spaces = h.spaces;
  has = more h.word h.has;
}

-- the text of a name, raw or bare
abbrev pub marked : Bool → List ℕ → List ℕ
marked false n = n
marked true n = 114 ∷ 35 ∷ n

marked_snoc : (raw : Bool) (n : List ℕ) (c : ℕ) → marked raw n ++ c ∷ [] ≡ marked raw (n ++ c ∷ [])
marked_snoc false n c = refl
marked_snoc true n c = refl

pub record NameText (raw : Bool) (n w : List ℕ) : Type 0 where
  pub is_name : IsIdentifier n
  pub is : w ≡ marked raw n

pub record NamedText (raw : Bool) (n w : List ℕ) : Type 0 where
  pub word : List ℕ
  pub gap : List ℕ
  pub parts : w ≡ word ++ gap
  pub name : NameText raw n word
  pub spaces : AllAre is_space gap

pub record ValuedText (r raw : Bool) (n w : List ℕ) : Type 0 where
  pub word : List ℕ
  pub gap : List ℕ
  pub gap' : List ℕ
  pub parts : w ≡ word ++ (gap ++ 61 ∷ gap')
  pub name : NameText raw n word
  pub free : is_taken r raw n ≡ false
  pub spaces : AllAre is_space gap
  pub spaces' : AllAre is_space gap'

pub record QuotedText (r raw : Bool) (n v w : List ℕ) : Type 0 where
  pub word : List ℕ
  pub gap : List ℕ
  pub gap' : List ℕ
  pub cs : List ℕ
  pub parts : w ≡ word ++ (gap ++ 61 ∷ (gap' ++ 34 ∷ cs))
  pub name : NameText raw n word
  pub free : is_taken r raw n ≡ false
  pub spaces : AllAre is_space gap
  pub spaces' : AllAre is_space gap'
  pub inside : AllAre is_in_string cs
  pub value : v ≡ encode_utf8_all cs

-- the characters that lead to a state
abbrev pub LeadsTo : Bool → FactState → List ℕ → Type 0
LeadsTo r waiting p = AllAre is_space p
LeadsTo r after_raw p = After (λ w. w ≡ codes "r#") p
LeadsTo r (naming raw n) p = After (NameText raw n) p
LeadsTo r (named raw n) p = After (NamedText raw n) p
LeadsTo r (valued raw n) p = After (ValuedText r raw n) p
LeadsTo r (quoted raw n v) p = After (QuotedText r raw n v) p
LeadsTo r (whole raw n v) p = Spaced (SpellsFact (reserved_names r) (record { name = n; value = Some v })) p

to_state : (r : Bool) (s t : FactState) (p : List ℕ) → Some s ≡ Some t → LeadsTo r s p → LeadsTo r t p
to_state r s t p e h = let P : FactState → Type 0 = λ u. LeadsTo r u p in subst P (same e) h
  where
    same : Some s ≡ Some t → s ≡ t
    same k = cc

-- the state after a character that can't be read
abbrev nothing : Option FactState
nothing = None

no_state : (r : Bool) (t : FactState) (p : List ℕ) → nothing ≡ Some t → LeadsTo r t p
no_state r t p e = cc

-- a name begins
name_sound : (r raw : Bool) (t : FactState) (p : List ℕ) (c : ℕ) → After (λ w. w ++ c ∷ [] ≡ marked raw (c ∷ [])) p → name_step raw c ≡ Some t → LeadsTo r t (p ++ c ∷ [])
name_sound r raw t p c h e = elim (chosen (begins_name c) _ _ _ e) [
  | inr k ↦ no_state r t _ k.1
  | inl k ↦ to_state r (naming raw (c ∷ [])) t _
      (ap (λ b. Some (naming raw b)) (sym (encode_ascii c (begins_ascii c k.0))) ∙ k.1)
      (after_more (λ w. w ++ c ∷ [] ≡ marked raw (c ∷ [])) (NameText raw (c ∷ [])) p c h (λ w i. record { is_name = (k.0, tt); is = i }))
]

-- a character after a name
past_name_sound : (r raw : Bool) (n : List ℕ) (t : FactState) (p : List ℕ) (c : ℕ) → After (NamedText raw n) p → past_name r raw n c ≡ Some t → LeadsTo r t (p ++ c ∷ [])
past_name_sound r raw n t p c h e = elim (chosen (is_space c) _ _ _ e) [
  | inl k ↦ to_state r (named raw n) t _ k.1 (after_more (NamedText raw n) (NamedText raw n) p c h (λ w i. record {
    word = i.word;
    gap = i.gap ++ c ∷ [];
    parts = ap (λ l. l ++ c ∷ []) i.parts ∙ append_assoc i.word i.gap (c ∷ []);
    name = i.name;
    spaces = all_snoc is_space i.gap c i.spaces k.0;
  }))
  | inr k ↦ elim (chosen (c == 61) _ _ _ k.1) [
    | inr l ↦ no_state r t _ l.1
    | inl l ↦ elim (chosen (is_taken r raw n) _ _ _ l.1) [
      | inl m ↦ no_state r t _ m.1
      | inr m ↦ to_state r (valued raw n) t _ m.1 (after_more (NamedText raw n) (ValuedText r raw n) p c h (λ w i. record {
        word = i.word;
        gap = i.gap;
        gap' = [];
        parts = ap (λ l. l ++ c ∷ []) i.parts ∙ append_assoc i.word i.gap (c ∷ []) ∙ ap (λ d. i.word ++ (i.gap ++ d ∷ [])) (same_char c 61 l.0);
        name = i.name;
        free = m.0;
        spaces = i.spaces;
        spaces' = tt;
      }))
    ]
  ]
]

after_named : (raw : Bool) (n p : List ℕ) → After (NameText raw n) p → After (NamedText raw n) p
after_named raw n p h = record {
  before = h.before;
  word = h.word;
  parts = h.parts;
  spaces = h.spaces;
  has = record { word = h.word; gap = []; parts = sym (append-nil h.word); name = h.has; spaces = tt };
}

-- the name `r` may be the beginning of `r#`
bare_r : (raw : Bool) (n : List ℕ) → (not raw && bytes_eq n (codes "r")) ≡ true → marked raw n ≡ codes "r"
bare_r true n e = absurd (clash e)
  where
    clash : false ≡ true → ⊥
    clash k = cc
bare_r false n e = (bytes_eq-Decides n (codes "r")).0 e

naming_sound : (r raw : Bool) (n : List ℕ) (t : FactState) (p : List ℕ) (c : ℕ) → After (NameText raw n) p → fact_step r (naming raw n) c ≡ Some t → LeadsTo r t (p ++ c ∷ [])
naming_sound r raw n t p c h e = elim (chosen (continues_name c) _ _ _ e) [
  | inl k ↦ to_state r (naming raw (n ++ c ∷ [])) t _ (ap (λ b. Some (naming raw (n ++ b))) (sym (encode_ascii c (continues_ascii c k.0))) ∙ k.1)
      (after_more (NameText raw n) (NameText raw (n ++ c ∷ [])) p c h (λ w i. record {
        is_name = identifier_snoc n c i.is_name k.0;
        is = ap (λ l. l ++ c ∷ []) i.is ∙ marked_snoc raw n c;
      }))
  | inr k ↦ elim (chosen (c == 35) _ _ _ k.1) [
    | inl l ↦ elim (chosen (not raw && bytes_eq n (codes "r")) _ _ _ l.1) [
      | inl m ↦ to_state r after_raw t _ m.1 (after_more (NameText raw n) (λ w. w ≡ codes "r#") p c h (λ w i.
          ap (λ l. l ++ c ∷ []) (i.is ∙ bare_r raw n m.0) ∙ ap (λ d. 114 ∷ d ∷ []) (same_char c 35 l.0)))
      | inr m ↦ no_state r t _ m.1
    ]
    | inr l ↦ past_name_sound r raw n t p c (after_named raw n p h) l.1
  ]
]

valued_sound : (r raw : Bool) (n : List ℕ) (t : FactState) (p : List ℕ) (c : ℕ) → After (ValuedText r raw n) p → fact_step r (valued raw n) c ≡ Some t → LeadsTo r t (p ++ c ∷ [])
valued_sound r raw n t p c h e = elim (chosen (is_space c) _ _ _ e) [
  | inl k ↦ to_state r (valued raw n) t _ k.1 (after_more (ValuedText r raw n) (ValuedText r raw n) p c h (λ w i. record {
    word = i.word;
    gap = i.gap;
    gap' = i.gap' ++ c ∷ [];
    parts = ap (λ l. l ++ c ∷ []) i.parts ∙ simp append_assoc;
    name = i.name;
    free = i.free;
    spaces = i.spaces;
    spaces' = all_snoc is_space i.gap' c i.spaces' k.0;
  }))
  | inr k ↦ elim (chosen (c == 34) _ _ _ k.1) [
    | inr l ↦ no_state r t _ l.1
    | inl l ↦ to_state r (quoted raw n []) t _ l.1 (after_more (ValuedText r raw n) (QuotedText r raw n []) p c h (λ w i. record {
      word = i.word;
      gap = i.gap;
      gap' = i.gap';
      cs = [];
      parts = ap (λ l. l ++ c ∷ []) i.parts ∙ ap (λ d. (i.word ++ (i.gap ++ 61 ∷ i.gap')) ++ d ∷ []) (same_char c 34 l.0) ∙ simp append_assoc;
      name = i.name;
      free = i.free;
      spaces = i.spaces;
      spaces' = i.spaces';
      inside = tt;
      value = refl;
    }))
  ]
]

in_string : (c : ℕ) → (c == 34) ≡ false → is_in_string c ≡ true
in_string c e = ap (λ b. cond b false true) e

-- the name of a fact is spelled
pub spells_name : (r raw : Bool) (n w : List ℕ) → NameText raw n w → is_taken r raw n ≡ false → SpellsName (reserved_names r) n w
spells_name r false n w h free = (h.is_name, inl (h.is, sym (taken_bare r n) ∙ free))
spells_name r true n w h free = (h.is_name, inr h.is)

quoted_sound : (r raw : Bool) (n v : List ℕ) (t : FactState) (p : List ℕ) (c : ℕ) → After (QuotedText r raw n v) p → fact_step r (quoted raw n v) c ≡ Some t → LeadsTo r t (p ++ c ∷ [])
quoted_sound r raw n v t p c h e = elim (chosen (c == 34) _ _ _ e) [
  | inl k ↦ to_state r (whole raw n v) t _ k.1 (
      let i = h.has in (
        h.before,
        h.word ++ 34 ∷ [],
        [],
        ap (λ l. l ++ c ∷ []) h.parts ∙ append_assoc h.before h.word (c ∷ []) ∙ ap (λ d. h.before ++ (h.word ++ d ∷ [])) (same_char c 34 k.0) ∙ ap (λ l. h.before ++ l) (sym (append-nil (h.word ++ 34 ∷ []))),
        h.spaces,
        (
          i.word,
          i.gap,
          61 ∷ (i.gap' ++ 34 ∷ (i.cs ++ 34 ∷ [])),
          ap (λ l. l ++ 34 ∷ []) i.parts ∙ simp append_assoc,
          spells_name r raw n i.word i.name i.free,
          i.spaces,
          (i.gap', i.cs, refl, i.spaces', i.inside, i.value),
        ),
        tt,
      ))
  | inr k ↦ to_state r (quoted raw n (v ++ encode_utf8 c)) t _ k.1 (after_more (QuotedText r raw n v) (QuotedText r raw n (v ++ encode_utf8 c)) p c h (λ w i. record {
    word = i.word;
    gap = i.gap;
    gap' = i.gap';
    cs = i.cs ++ c ∷ [];
    parts = ap (λ l. l ++ c ∷ []) i.parts ∙ simp append_assoc;
    name = i.name;
    free = i.free;
    spaces = i.spaces;
    spaces' = i.spaces';
    inside = all_snoc is_in_string i.cs c i.inside (in_string c k.0);
    value = ap (λ l. l ++ encode_utf8 c) i.value ∙ ap (λ l. encode_utf8_all i.cs ++ l) (sym (append-nil (encode_utf8 c))) ∙ sym (encodes-append i.cs (c ∷ []));
  }))
]

whole_sound : (r raw : Bool) (n v : List ℕ) (t : FactState) (p : List ℕ) (c : ℕ) → LeadsTo r (whole raw n v) p → fact_step r (whole raw n v) c ≡ Some t → LeadsTo r t (p ++ c ∷ [])
whole_sound r raw n v t p c (before, inner, after, parts, b, spells, a) e = elim (chosen (is_space c) _ _ _ e) [
  | inr k ↦ no_state r t _ k.1
  | inl k ↦ to_state r (whole raw n v) t _ k.1
      (before, inner, after ++ c ∷ [], ap (λ l. l ++ c ∷ []) parts ∙ simp append_assoc, b, spells, all_snoc is_space after c a k.0)
]

-- each step keeps the spelling
pub step_sound : (r : Bool) (s t : FactState) (p : List ℕ) (c : ℕ) → LeadsTo r s p → fact_step r s c ≡ Some t → LeadsTo r t (p ++ c ∷ [])
step_sound r waiting t p c h e = elim (chosen (is_space c) _ _ _ e) [
  | inl k ↦ to_state r waiting t _ k.1 (all_snoc is_space p c h k.0)
  | inr k ↦ name_sound r false t p c (record { before = p; word = []; parts = sym (append-nil p); spaces = h; has = refl }) k.1
]
step_sound r after_raw t p c h e = name_sound r true t p c
    (record { before = h.before; word = h.word; parts = h.parts; spaces = h.spaces; has = ap (λ l. l ++ c ∷ []) h.has }) e
step_sound r (naming raw n) t p c h e = naming_sound r raw n t p c h e
step_sound r (named raw n) t p c h e = past_name_sound r raw n t p c h e
step_sound r (valued raw n) t p c h e = valued_sound r raw n t p c h e
step_sound r (quoted raw n v) t p c h e = quoted_sound r raw n v t p c h e
step_sound r (whole raw n v) t p c h e = whole_sound r raw n v t p c h e

pub run_sound : (r : Bool) (cs : List ℕ) (t : FactState) → fact_run r cs waiting ≡ Some t → LeadsTo r t cs
run_sound r cs t e = run_keeps (fact_step r) (LeadsTo r) (λ s u front c h k. step_sound r s u front c h k) cs [] waiting t tt e

abbrev no_fact : Option FactText
no_fact = None

-- a name without a value
bare_fact : (r raw : Bool) (n p : List ℕ) (f : FactText) → After (NamedText raw n) p
    → cond (is_taken r raw n) None (Some (record { name = n; value = None })) ≡ Some f → Spaced (SpellsFact (reserved_names r) f) p
bare_fact r raw n p f h e = elim (chosen (is_taken r raw n) _ _ _ e) [
  | inl k ↦ absurd (none k.1)
  | inr k ↦ let P : FactText → Type 0 = λ g. Spaced (SpellsFact (reserved_names r) g) p in subst P (same k.1)
      (h.before, h.has.word, h.has.gap, h.parts ∙ ap (λ l. h.before ++ l) h.has.parts, h.spaces, spells_name r raw n h.has.word h.has.name k.0, h.has.spaces)
]
  where
    none : no_fact ≡ Some f → ⊥
    none k = cc

    same : {g : FactText} → Some g ≡ Some f → g ≡ f
    same k = cc

-- if a fact may end, the characters spell it
pub end_sound : (r : Bool) (s : FactState) (p : List ℕ) (f : FactText) → LeadsTo r s p → fact_end r s ≡ Some f → Spaced (SpellsFact (reserved_names r) f) p
end_sound r waiting p f h e = cc
end_sound r after_raw p f h e = cc
end_sound r (naming raw n) p f h e = bare_fact r raw n p f (after_named raw n p h) e
end_sound r (named raw n) p f h e = bare_fact r raw n p f h e
end_sound r (valued raw n) p f h e = cc
end_sound r (quoted raw n v) p f h e = cc
end_sound r (whole raw n v) p f h e = let P : FactText → Type 0 = λ g. Spaced (SpellsFact (reserved_names r) g) p in subst P (same e) h
  where
    same : {g : FactText} → Some g ≡ Some f → g ≡ f
    same k = cc
