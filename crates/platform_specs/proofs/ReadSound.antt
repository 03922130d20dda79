-- The characters that are read as an expression spell that expression.
use Rattle.std.proofs.Common.{◌≡◌, ℕ, Bool, true, false, cond, ◌||◌, List, [], ◌∷◌, ◌++◌, Option, Some, None, refl, ap, sym, subst, ◌∙◌, inl, inr, append-nil, append_assoc}
use Rattle.std.specs.Prelude.{◌==◌, codes}
use Rattle.std.specs.Str.{bytes_eq}
use Rattle.std.proofs.lemmas.Slice.Eq.{bytes_eq-Decides}
use Rattle.platform_specs.specs.Facts.{FactText}
use Rattle.platform_specs.specs.Expressions.{Expression, Expressions, fact, constant, no_more, part}
use Rattle.platform_specs.specs.Grammar.{AllAre, is_space, is_operator, Spaced, SpellsFact, constant_at, constant_word, Spells, SpellsParts}
use Rattle.platform_specs.specs.inner.Parts.{parts_of, joined, applied}
use Rattle.platform_specs.specs.inner.FactReading.{FactState, waiting, after_raw, naming, named, valued, quoted, whole, fact_step, fact_end}
use Rattle.platform_specs.specs.inner.Reading.{Place, beginning, item, closed, finished, Reading, operator_named, operator_at, is_list, leaf, leaf_or, past_comma, past_bracket, past_part, past_list, in_item, past_word, past_fact, step_at, read_step, read_run, at_first}
use Rattle.platform_specs.specs.declared.parts.Operator.{Operator}
use Rattle.platform_specs.specs.declared.parts.Operator.TheVariants.{All, Any, Not}
use Rattle.platform_specs.specs.declared.parts.Part.{Part}
use Rattle.platform_specs.specs.declared.parts.Part.TheVariants.{Open, Join, Close}
use Rattle.platform_specs.proofs.Runs.{run_keeps, chosen, same_char}
use Rattle.platform_specs.proofs.FactSound.{all_snoc, LeadsTo, step_sound, end_sound}
use Rattle.platform_specs.proofs.ReadRuns.{word_of}

-- one more expression at the end
abbrev pub snoc : Expressions → Expression → Expressions
snoc no_more e = part e no_more
snoc (part d es) e = part d (snoc es e)

-- expressions with a ',' after each
abbrev pub ListSoFar : Expressions → List ℕ → Type 0
ListSoFar no_more text = text ≡ []
ListSoFar (part e es) text = (first rest : List ℕ) × (text ≡ first ++ (44 ∷ rest)) × Spaced (Spells e) first × ListSoFar es rest

list_more : (es : Expressions) (e : Expression) (text t : List ℕ) → ListSoFar es text → Spaced (Spells e) t → ListSoFar (snoc es e) (text ++ (t ++ 44 ∷ []))
list_more no_more e text t h s = (t, [], ap (λ l. l ++ (t ++ 44 ∷ [])) h, s, refl)
list_more (part d es) e text t (first, rest, is, d_is, others) s =
    (first, rest ++ (t ++ 44 ∷ []), ap (λ l. l ++ (t ++ 44 ∷ [])) is ∙ append_assoc first (44 ∷ rest) (t ++ 44 ∷ []), d_is, list_more es e rest t others s)

list_end : (es : Expressions) (e : Expression) (text t : List ℕ) → ListSoFar es text → Spaced (Spells e) t → SpellsParts (snoc es e) (text ++ t)
list_end no_more e text t h s = (t, [], ap (λ l. l ++ t) h ∙ sym (append-nil t), s, inl (refl, refl))
list_end (part d es) e text t (first, rest, is, d_is, others) s =
    (first, 44 ∷ (rest ++ t), ap (λ l. l ++ t) is ∙ append_assoc first (44 ∷ rest) t, d_is, inr (rest ++ t, refl, list_end es e rest t others s))

list_spaces : (es : Expressions) (text s : List ℕ) → ListSoFar es text → AllAre is_space s → SpellsParts es (text ++ s)
list_spaces no_more text s h a = let P : List ℕ → Type 0 = λ l. AllAre is_space (l ++ s) in subst P (sym h) a
list_spaces (part d es) text s (first, rest, is, d_is, others) a =
    (first, 44 ∷ (rest ++ s), ap (λ l. l ++ s) is ∙ append_assoc first (44 ∷ rest) s, d_is, inr (rest ++ s, refl, list_spaces es rest s others a))

joined_snoc : (op : Operator) (es : Expressions) (e : Expression) → joined op (snoc es e) ≡ joined op es ++ (parts_of e ++ Join op ∷ [])
joined_snoc op no_more e = refl
joined_snoc op (part d es) e = ap (λ l. parts_of d ++ (Join op ∷ l)) (joined_snoc op es e) ∙ sym (append_assoc (parts_of d) (Join op ∷ joined op es) (parts_of e ++ Join op ∷ []))

-- the text after an operator's '(' where an expression may begin
abbrev pub InBrackets : Operator → Expressions → List ℕ → Type 0
InBrackets All es items = ListSoFar es items
InBrackets Any es items = ListSoFar es items
InBrackets Not no_more items = items ≡ []
InBrackets Not (part e es) items = ⊥

-- text with the property `Outer`, then an operator's word, '(' and the text after it
pub record Inside (op : Operator) (Outer : List ℕ → List Part → Type 0) (p : List ℕ) (ps : List Part) : Type 0 where
  pub front : List ℕ
  pub before : List ℕ
  pub gap : List ℕ
  pub items : List ℕ
  pub so_far : Expressions
  pub outer : List Part
  pub parts : p ≡ front ++ (before ++ (word_of op ++ (gap ++ (40 ∷ items))))
  pub marks : ps ≡ outer ++ (Open op ∷ joined op so_far)
  pub ready : Outer front outer
  pub spaces : AllAre is_space before
  pub gap_spaces : AllAre is_space gap
  pub list : InBrackets op so_far items

-- an expression may begin after the characters, with these brackets open
abbrev pub Ready : List Operator → List ℕ → List Part → Type 0
Ready [] p ps = (p ≡ []) × (ps ≡ [])
Ready (op ∷ ops) p ps = Inside op (Ready ops) p ps

abbrev pub in_list : List Operator → Bool
in_list [] = false
in_list (op ∷ ops) = is_list op

pub record Begun (may_close : Bool) (ops : List Operator) (ps : List Part) (p : List ℕ) : Type 0 where
  pub front : List ℕ
  pub gap : List ℕ
  pub parts : p ≡ front ++ gap
  pub ready : Ready ops front ps
  pub spaces : AllAre is_space gap
  pub closes : may_close ≡ in_list ops

pub record InItem (s : FactState) (ops : List Operator) (ps : List Part) (p : List ℕ) : Type 0 where
  pub front : List ℕ
  pub word : List ℕ
  pub parts : p ≡ front ++ word
  pub ready : Ready ops front ps
  pub leads : LeadsTo true s word

-- an expression ends here
pub record Done (ops : List Operator) (qs : List Part) (p : List ℕ) : Type 0 where
  pub front : List ℕ
  pub text : List ℕ
  pub e : Expression
  pub outer : List Part
  pub parts : p ≡ front ++ text
  pub ready : Ready ops front outer
  pub spells : Spaced (Spells e) text
  pub marks : qs ≡ outer ++ parts_of e

-- the whole expression and its ')'
pub record Whole (ps : List Part) (p : List ℕ) : Type 0 where
  pub inner : List ℕ
  pub e : Expression
  pub parts : p ≡ inner ++ codes ")"
  pub spells : Spaced (Spells e) inner
  pub marks : ps ≡ parts_of e

abbrev pub ReadAt : Place → List Operator → List Part → List ℕ → Type 0
ReadAt (beginning may_close) ops ps p = Begun may_close ops ps p
ReadAt (item s) ops ps p = InItem s ops ps p
ReadAt closed ops ps p = Done ops ps p
ReadAt finished ops ps p = Whole ps p

abbrev pub IsRead : Reading → List ℕ → Type 0
IsRead r p = ReadAt r.place r.open_ones r.parts p

to_reading : (r s : Reading) (p : List ℕ) → Some r ≡ Some s → IsRead r p → IsRead s p
to_reading r s p e h = let P : Reading → Type 0 = λ x. IsRead x p in subst P (same e) h
  where
    same : Some r ≡ Some s → r ≡ s
    same k = cc

abbrev nothing : Option Reading
nothing = None

no_reading : (s : Reading) (p : List ℕ) → nothing ≡ Some s → IsRead s p
no_reading s p e = cc

spaced_snoc : (P : List ℕ → Type 0) (p : List ℕ) (c : ℕ) → Spaced P p → is_space c ≡ true → Spaced P (p ++ c ∷ [])
spaced_snoc P p c (before, inner, after, parts, b, h, a) t =
    (before, inner, after ++ c ∷ [], ap (λ l. l ++ c ∷ []) parts ∙ simp append_assoc, b, h, all_snoc is_space after c a t)

regroup_join : (outer j e : List Part) (o m : Part) → ((outer ++ (o ∷ j)) ++ e) ++ m ∷ [] ≡ outer ++ (o ∷ (j ++ (e ++ m ∷ [])))
regroup_join outer j e o m = simp append_assoc

regroup_close : (outer j e : List Part) (o m n : Part) → ((outer ++ (o ∷ j)) ++ e) ++ m ∷ n ∷ [] ≡ outer ++ (o ∷ ((j ++ (e ++ m ∷ [])) ++ n ∷ []))
regroup_close outer j e o m n = simp append_assoc

-- ',' after a part of a list
comma_ready : (op : Operator) (ops : List Operator) (qs : List Part) (p : List ℕ) → is_list op ≡ true → Done (op ∷ ops) qs p → Ready (op ∷ ops) (p ++ 44 ∷ []) (qs ++ Join op ∷ [])
comma_ready op ops qs p list d = let i = d.ready in record {
  front = i.front;
  before = i.before;
  gap = i.gap;
  items = i.items ++ (d.text ++ 44 ∷ []);
  so_far = snoc i.so_far d.e;
  outer = i.outer;
  parts = ap (λ l. l ++ 44 ∷ []) (d.parts ∙ ap (λ l. l ++ d.text) i.parts) ∙ simp append_assoc;
  marks = ap (λ l. l ++ Join op ∷ []) (d.marks ∙ ap (λ l. l ++ parts_of d.e) i.marks) ∙ regroup_join i.outer (joined op i.so_far) (parts_of d.e) (Open op) (Join op)
      ∙ ap (λ l. i.outer ++ (Open op ∷ l)) (sym (joined_snoc op i.so_far d.e));
  ready = i.ready;
  spaces = i.spaces;
  gap_spaces = i.gap_spaces;
  list = more op i.so_far d.e i.items d.text list i.list d.spells;
}
  where
    more : (op : Operator) (es : Expressions) (e : Expression) (items t : List ℕ) → is_list op ≡ true → InBrackets op es items → Spaced (Spells e) t → InBrackets op (snoc es e) (items ++ (t ++ 44 ∷ []))
    more All es e items t k h s = list_more es e items t h s
    more Any es e items t k h s = list_more es e items t h s
    more Not es e items t k h s = cc

-- ')' after a part
bracket_spells : (op : Operator) (es : Expressions) (e : Expression) (gap items t : List ℕ) → AllAre is_space gap → InBrackets op es items → Spaced (Spells e) t
    → Spells (applied op (snoc es e)) (word_of op ++ (gap ++ (40 ∷ ((items ++ t) ++ codes ")"))))
bracket_spells All es e gap items t g h s = (gap, items ++ t, refl, g, list_end es e items t h s)
bracket_spells Any es e gap items t g h s = (gap, items ++ t, refl, g, list_end es e items t h s)
bracket_spells Not no_more e gap items t g h s = (gap, items ++ t, refl, g, (let P : List ℕ → Type 0 = λ l. Spaced (Spells e) (l ++ t) in subst P (sym h) s))
bracket_spells Not (part d es) e gap items t g h s = absurd h

parts_applied : (op : Operator) (es : Expressions) (e : Expression) (items : List ℕ) → InBrackets op es items → parts_of (applied op (snoc es e)) ≡ Open op ∷ (joined op (snoc es e) ++ Close ∷ [])
parts_applied All es e items h = refl
parts_applied Any es e items h = refl
parts_applied Not no_more e items h = ap (λ l. Open Not ∷ l) (sym (append_assoc (parts_of e) (Join Not ∷ []) (Close ∷ [])))
parts_applied Not (part d es) e items h = absurd h

bracket_done : (op : Operator) (ops : List Operator) (qs : List Part) (p : List ℕ) → Done (op ∷ ops) qs p → Done ops (qs ++ Join op ∷ Close ∷ []) (p ++ 41 ∷ [])
bracket_done op ops qs p d = let i = d.ready in record {
  front = i.front;
  text = i.before ++ ((word_of op ++ (i.gap ++ (40 ∷ ((i.items ++ d.text) ++ codes ")")))) ++ []);
  e = applied op (snoc i.so_far d.e);
  outer = i.outer;
  parts = ap (λ l. l ++ 41 ∷ []) (d.parts ∙ ap (λ l. l ++ d.text) i.parts) ∙ simp (append_assoc, append-nil);
  ready = i.ready;
  spells = (
    i.before,
    word_of op ++ (i.gap ++ (40 ∷ ((i.items ++ d.text) ++ codes ")"))),
    [],
    refl,
    i.spaces,
    bracket_spells op i.so_far d.e i.gap i.items d.text i.gap_spaces i.list d.spells,
    tt,
  );
  marks = ap (λ l. l ++ Join op ∷ Close ∷ []) (d.marks ∙ ap (λ l. l ++ parts_of d.e) i.marks) ∙ regroup_close i.outer (joined op i.so_far) (parts_of d.e) (Open op) (Join op) Close
      ∙ ap (λ l. i.outer ++ (Open op ∷ (l ++ Close ∷ []))) (sym (joined_snoc op i.so_far d.e))
      ∙ ap (λ l. i.outer ++ l) (sym (parts_applied op i.so_far d.e i.items i.list));
}

last_done : (qs : List Part) (p : List ℕ) → Done [] qs p → Whole qs (p ++ 41 ∷ [])
last_done qs p d = record {
  inner = d.text;
  e = d.e;
  parts = ap (λ l. l ++ 41 ∷ []) (d.parts ∙ ap (λ l. l ++ d.text) d.ready.0);
  spells = d.spells;
  marks = d.marks ∙ ap (λ l. l ++ parts_of d.e) d.ready.1;
}

comma_read : (ops : List Operator) (qs : List Part) (p : List ℕ) (r : Reading) → Done ops qs p → past_comma ops qs ≡ Some r → IsRead r (p ++ 44 ∷ [])
comma_read [] qs p r d e = cc
comma_read (All ∷ ops) qs p r d e = to_reading _ r _ e (record { front = p ++ 44 ∷ []; gap = []; parts = sym (append-nil (p ++ 44 ∷ [])); ready = comma_ready All ops qs p refl d; spaces = tt; closes = refl })
comma_read (Any ∷ ops) qs p r d e = to_reading _ r _ e (record { front = p ++ 44 ∷ []; gap = []; parts = sym (append-nil (p ++ 44 ∷ [])); ready = comma_ready Any ops qs p refl d; spaces = tt; closes = refl })
comma_read (Not ∷ ops) qs p r d e = cc

bracket_read : (ops : List Operator) (qs : List Part) (p : List ℕ) (r : Reading) → Done ops qs p → past_bracket ops qs ≡ Some r → IsRead r (p ++ 41 ∷ [])
bracket_read [] qs p r d e = to_reading _ r _ e (last_done qs p d)
bracket_read (op ∷ ops) qs p r d e = to_reading _ r _ e (bracket_done op ops qs p d)

part_past : (ops : List Operator) (qs : List Part) (p : List ℕ) (c : ℕ) (r : Reading) → Done ops qs p → past_part ops qs c ≡ Some r → IsRead r (p ++ c ∷ [])
part_past ops qs p c r d e =
    let P : ℕ → Type 0 = λ b. IsRead r (p ++ b ∷ []) in
    elim (chosen (c == 44) _ _ _ e) [
      | inl k ↦ subst P (sym (same_char c 44 k.0)) (comma_read ops qs p r d k.1)
      | inr k ↦ elim (chosen (c == 41) _ _ _ k.1) [
        | inl l ↦ subst P (sym (same_char c 41 l.0)) (bracket_read ops qs p r d l.1)
        | inr l ↦ no_reading r _ l.1
      ]
    ]

-- ')' after a ',' or '('
list_spells : (op : Operator) (es : Expressions) (gap items s : List ℕ) → is_list op ≡ true → AllAre is_space gap → InBrackets op es items → AllAre is_space s
    → Spells (applied op es) (word_of op ++ (gap ++ (40 ∷ ((items ++ s) ++ codes ")"))))
list_spells All es gap items s k g h a = (gap, items ++ s, refl, g, list_spaces es items s h a)
list_spells Any es gap items s k g h a = (gap, items ++ s, refl, g, list_spaces es items s h a)
list_spells Not es gap items s k g h a = cc

list_parts : (op : Operator) (es : Expressions) → is_list op ≡ true → parts_of (applied op es) ≡ Open op ∷ (joined op es ++ Close ∷ [])
list_parts All es k = refl
list_parts Any es k = refl
list_parts Not es k = cc

list_done : (op : Operator) (ops : List Operator) (ps : List Part) (p : List ℕ) → Begun true (op ∷ ops) ps p → Done ops (ps ++ Close ∷ []) (p ++ 41 ∷ [])
list_done op ops ps p b = let i = b.ready in record {
  front = i.front;
  text = i.before ++ ((word_of op ++ (i.gap ++ (40 ∷ ((i.items ++ b.gap) ++ codes ")")))) ++ []);
  e = applied op i.so_far;
  outer = i.outer;
  parts = ap (λ l. l ++ 41 ∷ []) (b.parts ∙ ap (λ l. l ++ b.gap) i.parts) ∙ simp (append_assoc, append-nil);
  ready = i.ready;
  spells = (
    i.before,
    word_of op ++ (i.gap ++ (40 ∷ ((i.items ++ b.gap) ++ codes ")"))),
    [],
    refl,
    i.spaces,
    list_spells op i.so_far i.gap i.items b.gap (sym b.closes) i.gap_spaces i.list b.spaces,
    tt,
  );
  marks = ap (λ l. l ++ Close ∷ []) i.marks ∙ append_assoc i.outer (Open op ∷ joined op i.so_far) (Close ∷ [])
      ∙ ap (λ l. i.outer ++ l) (sym (list_parts op i.so_far (sym b.closes)));
}

list_read : (ops : List Operator) (ps : List Part) (p : List ℕ) (r : Reading) → Begun true ops ps p → past_list ops ps ≡ Some r → IsRead r (p ++ 41 ∷ [])
list_read [] ps p r b e = cc
list_read (op ∷ ops) ps p r b e = to_reading _ r _ e (list_done op ops ps p b)

-- the operator's name is its word
named_word : (n : List ℕ) (op : Operator) → operator_named n ≡ Some op → n ≡ word_of op
named_word n op e = elim (chosen (bytes_eq n (codes "all")) _ _ _ e) [
  | inl k ↦ (bytes_eq-Decides n (codes "all")).0 k.0 ∙ ap word_of (same k.1)
  | inr k ↦ elim (chosen (bytes_eq n (codes "any")) _ _ _ k.1) [
    | inl l ↦ (bytes_eq-Decides n (codes "any")).0 l.0 ∙ ap word_of (same l.1)
    | inr l ↦ elim (chosen (bytes_eq n (codes "not")) _ _ _ l.1) [
      | inl m ↦ (bytes_eq-Decides n (codes "not")).0 m.0 ∙ ap word_of (same m.1)
      | inr m ↦ absurd (none m.1)
    ]
  ]
]
  where
    same : {a : Operator} → Some a ≡ Some op → a ≡ op
    same k = cc

    no_operator : Option Operator
    no_operator = None

    none : no_operator ≡ Some op → ⊥
    none k = cc

pub record WordText (op : Operator) (p : List ℕ) : Type 0 where
  pub before : List ℕ
  pub gap : List ℕ
  pub parts : p ≡ before ++ (word_of op ++ gap)
  pub spaces : AllAre is_space before
  pub gap_spaces : AllAre is_space gap

word_text : (s : FactState) (op : Operator) (p : List ℕ) → operator_at s ≡ Some op → LeadsTo true s p → WordText op p
word_text waiting op p e h = cc
word_text after_raw op p e h = cc
word_text (naming true n) op p e h = cc
word_text (naming false n) op p e h = record {
  before = h.before;
  gap = [];
  parts = h.parts ∙ ap (λ l. h.before ++ l) (h.has.is ∙ named_word n op e ∙ sym (append-nil (word_of op)));
  spaces = h.spaces;
  gap_spaces = tt;
}
word_text (named true n) op p e h = cc
word_text (named false n) op p e h = record {
  before = h.before;
  gap = h.has.gap;
  parts = h.parts ∙ ap (λ l. h.before ++ l) (h.has.parts ∙ ap (λ l. l ++ h.has.gap) (h.has.name.is ∙ named_word n op e));
  spaces = h.spaces;
  gap_spaces = h.has.spaces;
}
word_text (valued raw n) op p e h = cc
word_text (quoted raw n v) op p e h = cc
word_text (whole raw n v) op p e h = cc

opened_list : (op : Operator) → InBrackets op no_more []
opened_list All = refl
opened_list Any = refl
opened_list Not = refl

open_begun : (s : FactState) (op : Operator) (ops : List Operator) (ps : List Part) (p : List ℕ) → operator_at s ≡ Some op → InItem s ops ps p
    → Begun (is_list op) (op ∷ ops) (ps ++ Open op ∷ []) (p ++ 40 ∷ [])
open_begun s op ops ps p e i = let w = word_text s op i.word e i.leads in record {
  front = p ++ 40 ∷ [];
  gap = [];
  parts = sym (append-nil (p ++ 40 ∷ []));
  ready = record {
    front = i.front;
    before = w.before;
    gap = w.gap;
    items = [];
    so_far = no_more;
    outer = ps;
    parts = ap (λ l. l ++ 40 ∷ []) (i.parts ∙ ap (λ l. i.front ++ l) w.parts) ∙ simp append_assoc;
    marks = refl;
    ready = i.ready;
    spaces = w.spaces;
    gap_spaces = w.gap_spaces;
    list = opened_list op;
  };
  spaces = tt;
  closes = refl;
}

-- a fact that ends
constant_is : (n : List ℕ) (v : Option (List ℕ)) (b : Bool) → constant_at n v ≡ Some b → record { name = n; value = v } ≡ constant_word b
constant_is n (Some v) b e = cc
constant_is n None b e = elim (chosen (bytes_eq n (codes "true")) _ _ _ e) [
  | inl k ↦ ap (λ m. word m) ((bytes_eq-Decides n (codes "true")).0 k.0) ∙ ap constant_word (same k.1)
  | inr k ↦ elim (chosen (bytes_eq n (codes "false")) _ _ _ k.1) [
    | inl l ↦ ap (λ m. word m) ((bytes_eq-Decides n (codes "false")).0 l.0) ∙ ap constant_word (same l.1)
    | inr l ↦ absurd (none l.1)
  ]
]
  where
    word : List ℕ → FactText
    word m = record { name = m; value = None }

    same : {a : Bool} → Some a ≡ Some b → a ≡ b
    same k = cc

    no_bool : Option Bool
    no_bool = None

    none : no_bool ≡ Some b → ⊥
    none k = cc

leaf_spells : (f : FactText) (o : Option Bool) (text : List ℕ) → constant_at f.name f.value ≡ o → Spaced (SpellsFact is_operator f) text
    → (e : Expression) × Spaced (Spells e) text × (leaf_or o f ∷ [] ≡ parts_of e)
leaf_spells f None text h (before, inner, after, parts, b, s, a) = (fact f, (before, inner, after, parts, b, (s, h), a), refl)
leaf_spells f (Some c) text h (before, inner, after, parts, b, s, a) =
    let P : FactText → Type 0 = λ g. SpellsFact is_operator g inner in
    (constant c, (before, inner, after, parts, b, subst P (constant_is f.name f.value c h) s, a), refl)

leaf_done : (s : FactState) (f : FactText) (ops : List Operator) (ps : List Part) (p : List ℕ) → fact_end true s ≡ Some f → InItem s ops ps p → Done ops (ps ++ leaf f ∷ []) p
leaf_done s f ops ps p h i =
    let k = leaf_spells f (constant_at f.name f.value) i.word refl (end_sound true s i.word f i.leads h) in
    record { front = i.front; text = i.word; e = k.0; outer = ps; parts = i.parts; ready = i.ready; spells = k.1; marks = ap (λ l. ps ++ l) k.2 }

-- a fact that goes on
item_read : (ops : List Operator) (ps : List Part) (q : List ℕ) (r : Reading) (o : Option FactState) → ((t : FactState) → o ≡ Some t → InItem t ops ps q) → in_item ops ps o ≡ Some r → IsRead r q
item_read ops ps q r None one e = cc
item_read ops ps q r (Some t) one e = to_reading _ r q e (one t refl)

goes_on : (s t : FactState) (ops : List Operator) (ps : List Part) (p : List ℕ) (c : ℕ) → InItem s ops ps p → fact_step true s c ≡ Some t → InItem t ops ps (p ++ c ∷ [])
goes_on s t ops ps p c i e = record {
  front = i.front;
  word = i.word ++ c ∷ [];
  parts = ap (λ l. l ++ c ∷ []) i.parts ∙ append_assoc i.front i.word (c ∷ []);
  ready = i.ready;
  leads = step_sound true s t i.word c i.leads e;
}

begun_item : (may_close : Bool) (ops : List Operator) (ps : List Part) (p : List ℕ) → Begun may_close ops ps p → InItem waiting ops ps p
begun_item may_close ops ps p b = record { front = b.front; word = b.gap; parts = b.parts; ready = b.ready; leads = b.spaces }

word_read : (s : FactState) (ops : List Operator) (ps : List Part) (p : List ℕ) (r : Reading) (o : Option Operator) → operator_at s ≡ o → InItem s ops ps p → past_word ops ps s o ≡ Some r → IsRead r (p ++ 40 ∷ [])
word_read s ops ps p r None h i e = item_read ops ps _ r (fact_step true s 40) (λ t k. goes_on s t ops ps p 40 i k) e
word_read s ops ps p r (Some op) h i e = to_reading _ r _ e (open_begun s op ops ps p h i)

fact_read : (s : FactState) (ops : List Operator) (ps : List Part) (p : List ℕ) (c : ℕ) (r : Reading) (o : Option FactText) → fact_end true s ≡ o → InItem s ops ps p → past_fact ops ps s c o ≡ Some r → IsRead r (p ++ c ∷ [])
fact_read s ops ps p c r None h i e = item_read ops ps _ r (fact_step true s c) (λ t k. goes_on s t ops ps p c i k) e
fact_read s ops ps p c r (Some f) h i e = part_past ops (ps ++ leaf f ∷ []) p c r (leaf_done s f ops ps p h i) e

begun_space : (may_close : Bool) (ops : List Operator) (ps : List Part) (p : List ℕ) (c : ℕ) → is_space c ≡ true → Begun may_close ops ps p → Begun may_close ops ps (p ++ c ∷ [])
begun_space may_close ops ps p c t b = record {
  front = b.front;
  gap = b.gap ++ c ∷ [];
  parts = ap (λ l. l ++ c ∷ []) b.parts ∙ append_assoc b.front b.gap (c ∷ []);
  ready = b.ready;
  spaces = all_snoc is_space b.gap c b.spaces t;
  closes = b.closes;
}

done_space : (ops : List Operator) (ps : List Part) (p : List ℕ) (c : ℕ) → is_space c ≡ true → Done ops ps p → Done ops ps (p ++ c ∷ [])
done_space ops ps p c t d = record {
  front = d.front;
  text = d.text ++ c ∷ [];
  e = d.e;
  outer = d.outer;
  parts = ap (λ l. l ++ c ∷ []) d.parts ∙ append_assoc d.front d.text (c ∷ []);
  ready = d.ready;
  spells = spaced_snoc (Spells d.e) d.text c d.spells t;
  marks = d.marks;
}

-- ')' where an expression begins
close_read : (may_close : Bool) (ops : List Operator) (ps : List Part) (p : List ℕ) (r : Reading) → Begun may_close ops ps p → cond may_close (past_list ops ps) None ≡ Some r → IsRead r (p ++ 41 ∷ [])
close_read true ops ps p r b e = list_read ops ps p r b e
close_read false ops ps p r b e = no_reading r _ e

place_read : (place : Place) (ops : List Operator) (ps : List Part) (p : List ℕ) (c : ℕ) (r : Reading) → ReadAt place ops ps p → step_at place ops ps c ≡ Some r → IsRead r (p ++ c ∷ [])
place_read (beginning may_close) ops ps p c r h e =
    let P : ℕ → Type 0 = λ b. IsRead r (p ++ b ∷ []) in
    elim (chosen (is_space c) _ _ _ e) [
      | inl k ↦ to_reading _ r _ k.1 (begun_space may_close ops ps p c k.0 h)
      | inr k ↦ elim (chosen (c == 41) _ _ _ k.1) [
        | inl l ↦ subst P (sym (same_char c 41 l.0)) (close_read may_close ops ps p r h l.1)
        | inr l ↦ item_read ops ps _ r (fact_step true waiting c) (λ t m. goes_on waiting t ops ps p c (begun_item may_close ops ps p h) m) l.1
      ]
    ]
place_read (item s) ops ps p c r h e =
    let P : ℕ → Type 0 = λ b. IsRead r (p ++ b ∷ []) in
    elim (chosen (c == 40) _ _ _ e) [
      | inl k ↦ subst P (sym (same_char c 40 k.0)) (word_read s ops ps p r (operator_at s) refl h k.1)
      | inr k ↦ elim (chosen ((c == 44) || (c == 41)) _ _ _ k.1) [
        | inl l ↦ fact_read s ops ps p c r (fact_end true s) refl h l.1
        | inr l ↦ item_read ops ps _ r (fact_step true s c) (λ t m. goes_on s t ops ps p c h m) l.1
      ]
    ]
place_read closed ops ps p c r h e = elim (chosen (is_space c) _ _ _ e) [
  | inl k ↦ to_reading _ r _ k.1 (done_space ops ps p c k.0 h)
  | inr k ↦ part_past ops ps p c r h k.1
]
place_read finished ops ps p c r h e = cc

-- after any characters that can be read, the reader's state says how they are spelled
pub read_sound : (cs : List ℕ) (r : Reading) → read_run cs at_first ≡ Some r → IsRead r cs
read_sound cs r e = run_keeps read_step IsRead (λ s t front c h k. place_read s.place s.open_ones s.parts front c t h k) cs [] at_first r
    (record { front = []; gap = []; parts = refl; ready = (refl, refl); spaces = tt; closes = refl }) e
