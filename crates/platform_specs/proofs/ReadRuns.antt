-- A text that spells an expression is read as that expression.
use Rattle.std.proofs.Common.{◌≡◌, ℕ, ◌⊎◌, Bool, true, false, cond, ◌||◌, List, [], ◌∷◌, ◌++◌, Option, Some, None, refl, ap, sym, subst, ◌∙◌, inl, inr, append-nil, append_assoc}
use Rattle.std.specs.Prelude.{◌==◌, codes}
use Rattle.std.proofs.lemmas.Bool.Decides.{eqb_tells}
use Rattle.platform_specs.specs.Facts.{FactText}
use Rattle.platform_specs.specs.Expressions.{Expression, Expressions, fact, constant, not_of, all_of, any_of, no_more, part}
use Rattle.platform_specs.specs.Grammar.{AllAre, is_space, begins_name, is_operator, IsIdentifier, SpellsName, Spaced, SpellsItem, SpellsFact, constant_word, Applied, Spells, SpellsParts}
use Rattle.platform_specs.specs.inner.Parts.{parts_of, joined}
use Rattle.platform_specs.specs.inner.FactReading.{FactState, waiting, after_raw, naming, named, valued, quoted, whole, fact_step, fact_end, fact_run}
use Rattle.platform_specs.specs.inner.Reading.{Place, beginning, item, closed, finished, Reading, operator_at, is_list, leaf, leaf_or, past_comma, past_part, past_list, in_item, past_word, past_fact, step_at, read_step, read_run, at_first}
use Rattle.platform_specs.specs.declared.parts.Operator.{Operator}
use Rattle.platform_specs.specs.declared.parts.Operator.TheVariants.{All, Any, Not}
use Rattle.platform_specs.specs.declared.parts.Part.{Part}
use Rattle.platform_specs.specs.declared.parts.Part.TheVariants.{Open, Constant, Fact, Join, Close}
use Rattle.platform_specs.proofs.Runs.{run_cons, run_past, run_stays, run_lifts, differs, same_char}
use Rattle.platform_specs.proofs.FactRuns.{FactRead, fact_read, fact_end_stays, bare_run, begin_step, GapRead, gap_run}

abbrev pub at_place : Place → List Operator → List Part → Reading
at_place place ops ps = record { place = place; open_ones = ops; parts = ps }

-- the parts, if the expression may end here
abbrev pub settled_fact : List Part → Option FactText → Option (List Part)
settled_fact ps None = None
settled_fact ps (Some f) = Some (ps ++ leaf f ∷ [])

abbrev pub settled : Place → List Part → Option (List Part)
settled (beginning may_close) ps = None
settled (item s) ps = settled_fact ps (fact_end true s)
settled closed ps = Some ps
settled finished ps = None

-- no fact goes on with a '(' after an operator's word
op_stuck : (s : FactState) (op : Operator) → operator_at s ≡ Some op → fact_step true s 40 ≡ None
op_stuck waiting op e = cc
op_stuck after_raw op e = cc
op_stuck (naming true n) op e = cc
op_stuck (naming false n) op e = refl
op_stuck (named true n) op e = cc
op_stuck (named false n) op e = refl
op_stuck (valued raw n) op e = cc
op_stuck (quoted raw n v) op e = cc
op_stuck (whole raw n v) op e = cc

comma_stuck : (s : FactState) (f : FactText) → fact_end true s ≡ Some f → fact_step true s 44 ≡ None
comma_stuck waiting f e = cc
comma_stuck after_raw f e = cc
comma_stuck (naming raw n) f e = refl
comma_stuck (named raw n) f e = refl
comma_stuck (valued raw n) f e = cc
comma_stuck (quoted raw n v) f e = cc
comma_stuck (whole raw n v) f e = refl

bracket_stuck : (s : FactState) (f : FactText) → fact_end true s ≡ Some f → fact_step true s 41 ≡ None
bracket_stuck waiting f e = cc
bracket_stuck after_raw f e = cc
bracket_stuck (naming raw n) f e = refl
bracket_stuck (named raw n) f e = refl
bracket_stuck (valued raw n) f e = cc
bracket_stuck (quoted raw n v) f e = cc
bracket_stuck (whole raw n v) f e = refl

lift_word : (s t : FactState) (ops : List Operator) (ps : List Part) (o : Option Operator) → operator_at s ≡ o → fact_step true s 40 ≡ Some t → past_word ops ps s o ≡ Some (at_place (item t) ops ps)
lift_word s t ops ps None h e = ap (in_item ops ps) e
lift_word s t ops ps (Some op) h e = let k = op_stuck s op h in cc

lift_end : (s t : FactState) (ops : List Operator) (ps : List Part) (c : ℕ) → ((f : FactText) → fact_end true s ≡ Some f → fact_step true s c ≡ None)
    → (o : Option FactText) → fact_end true s ≡ o → fact_step true s c ≡ Some t → past_fact ops ps s c o ≡ Some (at_place (item t) ops ps)
lift_end s t ops ps c stuck None h e = ap (in_item ops ps) e
lift_end s t ops ps c stuck (Some f) h e = let k = stuck f h in cc

-- a step of the fact is a step of the expression
pub lift_step : (ops : List Operator) (ps : List Part) (s t : FactState) (c : ℕ) → fact_step true s c ≡ Some t → step_at (item s) ops ps c ≡ Some (at_place (item t) ops ps)
lift_step ops ps s t c e =
    let P : ℕ → Type 0 = λ d. fact_step true s d ≡ Some t → step_at (item s) ops ps d ≡ Some (at_place (item t) ops ps) in
    elim (eqb_tells c 40) [
      | inl h ↦ subst P (sym h.1) (lift_word s t ops ps (operator_at s) refl) e
      | inr h ↦ elim (eqb_tells c 44) [
        | inl k ↦ subst P (sym k.1) (lift_end s t ops ps 44 (comma_stuck s) (fact_end true s) refl) e
        | inr k ↦ elim (eqb_tells c 41) [
          | inl l ↦ subst P (sym l.1) (lift_end s t ops ps 41 (bracket_stuck s) (fact_end true s) refl) e
          | inr l ↦
              ap (λ b. cond b (past_word ops ps s (operator_at s)) (cond ((c == 44) || (c == 41)) (past_fact ops ps s c (fact_end true s)) (in_item ops ps (fact_step true s c)))) h.0
              ∙ ap (λ b. cond (b || (c == 41)) (past_fact ops ps s c (fact_end true s)) (in_item ops ps (fact_step true s c))) k.0
              ∙ ap (λ b. cond b (past_fact ops ps s c (fact_end true s)) (in_item ops ps (fact_step true s c))) l.0
              ∙ ap (in_item ops ps) e
        ]
      ]
    ]

pub lift_run : (ops : List Operator) (ps : List Part) (cs : List ℕ) (s t : FactState) → fact_run true cs s ≡ Some t → read_run cs (at_place (item s) ops ps) ≡ Some (at_place (item t) ops ps)
lift_run ops ps = run_lifts (fact_step true) read_step (λ s. at_place (item s) ops ps) (lift_step ops ps)

-- a text that begins as a name does
record BeginsName (text : List ℕ) : Type 0 where
  c : ℕ
  cs : List ℕ
  is : text ≡ c ∷ cs
  begins : begins_name c ≡ true

identifier_first : (n : List ℕ) → IsIdentifier n → BeginsName n
identifier_first [] h = absurd h
identifier_first (c ∷ cs) h = record { c = c; cs = cs; is = refl; begins = h.0 }

first_in : (a b text : List ℕ) → text ≡ a ++ b → BeginsName a → BeginsName text
first_in a b text e h = record { c = h.c; cs = h.cs ++ b; is = e ∙ ap (λ l. l ++ b) h.is; begins = h.begins }

name_first : (n text : List ℕ) → SpellsName is_operator n text → BeginsName text
name_first n text h = elim h.1 [
  | inl bare ↦ let P : List ℕ → Type 0 = BeginsName in subst P (sym bare.0) (identifier_first n h.0)
  | inr marked ↦ record { c = 114; cs = 35 ∷ n; is = marked; begins = refl }
]

item_first : (n : List ℕ) (v : Option (List ℕ)) (text : List ℕ) → SpellsItem is_operator n v text → BeginsName text
item_first n None text h = name_first n text h
item_first n (Some v) text (word, gap, rest, parts, h, g, k) = first_in word (gap ++ rest) text parts (name_first n word h)

pub first_step : (may_close : Bool) (ops : List Operator) (ps : List Part) (c : ℕ) → begins_name c ≡ true → step_at (beginning may_close) ops ps c ≡ Some (at_place (item (naming false (c ∷ []))) ops ps)
first_step may_close ops ps c b =
    ap (λ x. cond x (Some (at_place (beginning may_close) ops ps)) (cond (c == 41) (cond may_close (past_list ops ps) None) (in_item ops ps (fact_step true waiting c)))) (differs begins_name 32 c refl b)
    ∙ ap (λ x. cond x (cond may_close (past_list ops ps) None) (in_item ops ps (fact_step true waiting c))) (differs begins_name 41 c refl b)
    ∙ ap (in_item ops ps) (begin_step true c b)

-- a fact, or an operator's word, where an expression begins
word_begins : (may_close : Bool) (ops : List Operator) (ps : List Part) (text : List ℕ) (s : FactState) → BeginsName text → fact_run true text waiting ≡ Some s
    → read_run text (at_place (beginning may_close) ops ps) ≡ Some (at_place (item s) ops ps)
word_begins may_close ops ps text s h e =
    ap (λ t. read_run t (at_place (beginning may_close) ops ps)) h.is
    ∙ run_cons read_step h.c h.cs (at_place (beginning may_close) ops ps) _ (first_step may_close ops ps h.c h.begins)
    ∙ lift_run ops ps h.cs (naming false (h.c ∷ [])) s
    (sym (run_cons (fact_step true) h.c h.cs waiting _ (begin_step true h.c h.begins)) ∙ ap (λ t. fact_run true t waiting) (sym h.is) ∙ e)

-- the word of an operator
abbrev pub word_of : Operator → List ℕ
word_of All = codes "all"
word_of Any = codes "any"
word_of Not = codes "not"

word_is : (op : Operator) → IsIdentifier (word_of op)
word_is All = (refl, (refl, (refl, tt)))
word_is Any = (refl, (refl, (refl, tt)))
word_is Not = (refl, (refl, (refl, tt)))

open_step : (ops : List Operator) (ps : List Part) (op : Operator) (s : FactState) → (s ≡ naming false (word_of op)) ⊎ (s ≡ named false (word_of op))
    → step_at (item s) ops ps 40 ≡ Some (at_place (beginning (is_list op)) (op ∷ ops) (ps ++ Open op ∷ []))
open_step ops ps All s is = elim is [ inl e ↦ ap (λ t. step_at (item t) ops ps 40) e | inr e ↦ ap (λ t. step_at (item t) ops ps 40) e ]
open_step ops ps Any s is = elim is [ inl e ↦ ap (λ t. step_at (item t) ops ps 40) e | inr e ↦ ap (λ t. step_at (item t) ops ps 40) e ]
open_step ops ps Not s is = elim is [ inl e ↦ ap (λ t. step_at (item t) ops ps 40) e | inr e ↦ ap (λ t. step_at (item t) ops ps 40) e ]

-- an operator's word and '(' are read
pub open_read : (may_close : Bool) (ops : List Operator) (ps : List Part) (op : Operator) (gap rest : List ℕ) → AllAre is_space gap
    → read_run (word_of op ++ (gap ++ (40 ∷ rest))) (at_place (beginning may_close) ops ps) ≡ read_run rest (at_place (beginning (is_list op)) (op ∷ ops) (ps ++ Open op ∷ []))
open_read may_close ops ps op gap rest g =
    let k : GapRead true false (word_of op) gap = gap_run true false (word_of op) gap g in
    run_past read_step (word_of op) (gap ++ (40 ∷ rest)) _ _
    (word_begins may_close ops ps (word_of op) _ (identifier_first (word_of op) (word_is op)) (bare_run true (word_of op) (word_is op)))
    ∙ run_past read_step gap (40 ∷ rest) _ _ (lift_run ops ps gap (naming false (word_of op)) k.state k.reads)
    ∙ run_cons read_step 40 rest (at_place (item k.state) ops ps) _ (open_step ops ps op k.state k.is)

-- ',' or ')' after an expression that may end
settled_past_fact : (ops : List Operator) (ps qs : List Part) (s : FactState) (c : ℕ) (o : Option FactText) → settled_fact ps o ≡ Some qs → past_fact ops ps s c o ≡ past_part ops qs c
settled_past_fact ops ps qs s c None e = cc
settled_past_fact ops ps qs s c (Some f) e = ap (λ l. past_part ops l c) (same e)
  where
    same : Some (ps ++ leaf f ∷ []) ≡ Some qs → ps ++ leaf f ∷ [] ≡ qs
    same k = cc

pub settled_step : (place : Place) (ops : List Operator) (ps qs : List Part) (c : ℕ) → (c == 40) ≡ false → ((c == 44) || (c == 41)) ≡ true → is_space c ≡ false
    → settled place ps ≡ Some qs → step_at place ops ps c ≡ past_part ops qs c
settled_step (beginning may_close) ops ps qs c f t n e = cc
settled_step (item s) ops ps qs c f t n e =
    ap (λ b. cond b (past_word ops ps s (operator_at s)) (cond ((c == 44) || (c == 41)) (past_fact ops ps s c (fact_end true s)) (in_item ops ps (fact_step true s c)))) f
    ∙ ap (λ b. cond b (past_fact ops ps s c (fact_end true s)) (in_item ops ps (fact_step true s c))) t
    ∙ settled_past_fact ops ps qs s c (fact_end true s) e
settled_step closed ops ps qs c f t n e =
    ap (λ b. cond b (Some (at_place closed ops ps)) (past_part ops ps c)) n ∙ ap (λ l. past_part ops l c) (same e)
  where
    same : Some ps ≡ Some qs → ps ≡ qs
    same k = cc
settled_step finished ops ps qs c f t n e = cc

-- an expression was read, up to a position where it may end
pub record Ended (text : List ℕ) (may_close : Bool) (ops : List Operator) (ps qs : List Part) : Type 0 where
  pub place : Place
  pub left : List Part
  pub reads : read_run text (at_place (beginning may_close) ops ps) ≡ Some (at_place place ops left)
  pub settles : settled place left ≡ Some qs

-- spaces after an expression
settled_spaces_fact : (ops : List Operator) (ps qs : List Part) (s : FactState) (cs : List ℕ) → AllAre is_space cs → (o : Option FactText) → fact_end true s ≡ o → settled_fact ps o ≡ Some qs
    → (place : Place) × (read_run cs (at_place (item s) ops ps) ≡ Some (at_place place ops ps)) × (settled place ps ≡ Some qs)
settled_spaces_fact ops ps qs s cs a None h e = cc
settled_spaces_fact ops ps qs s cs a (Some f) h e =
    let k = fact_end_stays true f s cs h a in (item k.0, lift_run ops ps cs s k.0 k.1, ap (settled_fact ps) k.2 ∙ e)

closed_space : (ops : List Operator) (ps : List Part) (c : ℕ) → is_space c ≡ true → read_step (at_place closed ops ps) c ≡ Some (at_place closed ops ps)
closed_space ops ps c h = ap (step_at closed ops ps) (same_char c 32 h)

beginning_space : (may_close : Bool) (ops : List Operator) (ps : List Part) (c : ℕ) → is_space c ≡ true → read_step (at_place (beginning may_close) ops ps) c ≡ Some (at_place (beginning may_close) ops ps)
beginning_space may_close ops ps c h = ap (step_at (beginning may_close) ops ps) (same_char c 32 h)

pub settled_spaces : (place : Place) (ops : List Operator) (ps qs : List Part) (cs : List ℕ) → AllAre is_space cs → settled place ps ≡ Some qs
    → (after : Place) × (read_run cs (at_place place ops ps) ≡ Some (at_place after ops ps)) × (settled after ps ≡ Some qs)
settled_spaces (beginning may_close) ops ps qs cs a e = cc
settled_spaces (item s) ops ps qs cs a e = settled_spaces_fact ops ps qs s cs a (fact_end true s) refl e
settled_spaces closed ops ps qs cs a e = (closed, run_stays read_step is_space (at_place closed ops ps) (closed_space ops ps) cs a, e)
settled_spaces finished ops ps qs cs a e = cc

spaced_read : (P : List ℕ → Type 0) (text : List ℕ) (may_close : Bool) (ops : List Operator) (ps qs : List Part) → ((inner : List ℕ) → P inner → Ended inner may_close ops ps qs)
    → Spaced P text → Ended text may_close ops ps qs
spaced_read P text may_close ops ps qs one (before, inner, after, parts, b, h, a) =
    let k = one inner h in
    let l = settled_spaces k.place ops k.left qs after a k.settles in
    record {
      place = l.0;
      left = k.left;
      reads = ap (λ t. read_run t (at_place (beginning may_close) ops ps)) parts
          ∙ run_past read_step before (inner ++ after) _ _ (run_stays read_step is_space (at_place (beginning may_close) ops ps) (beginning_space may_close ops ps) before b)
          ∙ run_past read_step inner after _ _ k.reads
          ∙ l.1;
      settles = l.2;
    }

-- a fact or a constant is read
leaf_read : (f : FactText) (text : List ℕ) (may_close : Bool) (ops : List Operator) (ps : List Part) (p : Part) → SpellsFact is_operator f text → leaf f ≡ p → Ended text may_close ops ps (ps ++ p ∷ [])
leaf_read f text may_close ops ps p h e =
    let k : FactRead true f text = fact_read true f text h in
    record {
      place = item k.state;
      left = ps;
      reads = word_begins may_close ops ps text k.state (item_first f.name f.value text h) k.reads;
      settles = ap (settled_fact ps) k.ends ∙ ap (λ q. Some (ps ++ q ∷ [])) e;
    }

constant_leaf : (b : Bool) → leaf (constant_word b) ≡ Constant b
constant_leaf true = refl
constant_leaf false = refl

comma_past : (ops : List Operator) (ps : List Part) (op : Operator) → is_list op ≡ true → past_comma (op ∷ ops) ps ≡ Some (at_place (beginning true) (op ∷ ops) (ps ++ Join op ∷ []))
comma_past ops ps All h = refl
comma_past ops ps Any h = refl
comma_past ops ps Not h = cc

-- an operator with its brackets is read
applied_read : (op : Operator) (P : List ℕ → Type 0) (text : List ℕ) (may_close : Bool) (ops : List Operator) (ps qs : List Part)
    → ((inner : List ℕ) → P inner → read_run (inner ++ codes ")") (at_place (beginning (is_list op)) (op ∷ ops) (ps ++ Open op ∷ [])) ≡ Some (at_place closed ops qs))
    → Applied (word_of op) P text → Ended text may_close ops ps qs
applied_read op P text may_close ops ps qs one (gap, inner, parts, g, h) = record {
  place = closed;
  left = qs;
  reads = ap (λ t. read_run t (at_place (beginning may_close) ops ps)) parts
      ∙ open_read may_close ops ps op gap (inner ++ codes ")") g
      ∙ one inner h;
  settles = refl;
}

-- the ')' after the last part
bracket_read : (op : Operator) (inner : List ℕ) (may_close : Bool) (ops : List Operator) (ps qs : List Part) → Ended inner may_close (op ∷ ops) ps qs
    → read_run (inner ++ codes ")") (at_place (beginning may_close) (op ∷ ops) ps) ≡ Some (at_place closed ops (qs ++ Join op ∷ Close ∷ []))
bracket_read op inner may_close ops ps qs k =
    run_past read_step inner (codes ")") _ _ k.reads
    ∙ run_cons read_step 41 [] (at_place k.place (op ∷ ops) k.left) _ (settled_step k.place (op ∷ ops) k.left qs 41 refl refl refl k.settles)

-- the last part of a list, and a part with a ',' after it
last_read : (op : Operator) (e : Expression) (ops : List Operator) (ps : List Part) (first : List ℕ) → Ended first true (op ∷ ops) ps (ps ++ parts_of e)
    → read_run ((first ++ []) ++ codes ")") (at_place (beginning true) (op ∷ ops) ps) ≡ Some (at_place closed ops (ps ++ (joined op (part e no_more) ++ Close ∷ [])))
last_read op e ops ps first k =
    ap (λ t. read_run (t ++ codes ")") (at_place (beginning true) (op ∷ ops) ps)) (append-nil first)
    ∙ bracket_read op first true ops ps (ps ++ parts_of e) k
    ∙ ap (λ l. Some (at_place closed ops l)) (simp append_assoc)

next_read : (op : Operator) (e : Expression) (es : Expressions) (ops : List Operator) (ps : List Part) (first more : List ℕ) → is_list op ≡ true
    → Ended first true (op ∷ ops) ps (ps ++ parts_of e)
    → read_run (more ++ codes ")") (at_place (beginning true) (op ∷ ops) ((ps ++ parts_of e) ++ Join op ∷ []))
    ≡ Some (at_place closed ops (((ps ++ parts_of e) ++ Join op ∷ []) ++ (joined op es ++ Close ∷ [])))
    → read_run ((first ++ (44 ∷ more)) ++ codes ")") (at_place (beginning true) (op ∷ ops) ps) ≡ Some (at_place closed ops (ps ++ (joined op (part e es) ++ Close ∷ [])))
next_read op e es ops ps first more list k rest =
    ap (λ t. read_run t (at_place (beginning true) (op ∷ ops) ps)) (append_assoc first (44 ∷ more) (codes ")"))
    ∙ run_past read_step first (44 ∷ (more ++ codes ")")) _ _ k.reads
    ∙ run_cons read_step 44 (more ++ codes ")") (at_place k.place (op ∷ ops) k.left) _
    (settled_step k.place (op ∷ ops) k.left (ps ++ parts_of e) 44 refl refl refl k.settles ∙ comma_past ops (ps ++ parts_of e) op list)
    ∙ rest
    ∙ ap (λ l. Some (at_place closed ops l)) (simp append_assoc)

none_read : (op : Operator) (inner : List ℕ) (ops : List Operator) (ps : List Part) → AllAre is_space inner
    → read_run (inner ++ codes ")") (at_place (beginning true) (op ∷ ops) ps) ≡ Some (at_place closed ops (ps ++ Close ∷ []))
none_read op inner ops ps h =
    run_past read_step inner (codes ")") _ _ (run_stays read_step is_space (at_place (beginning true) (op ∷ ops) ps) (beginning_space true (op ∷ ops) ps) inner h)

-- a part, then nothing or ',' and the other parts
part_read : (op : Operator) (e : Expression) (es : Expressions) (inner first rest : List ℕ) (ops : List Operator) (ps : List Part) → is_list op ≡ true → inner ≡ first ++ rest
    → Ended first true (op ∷ ops) ps (ps ++ parts_of e)
    → ((more : List ℕ) (qs : List Part) → SpellsParts es more → read_run (more ++ codes ")") (at_place (beginning true) (op ∷ ops) qs) ≡ Some (at_place closed ops (qs ++ (joined op es ++ Close ∷ []))))
    → ((es ≡ no_more) × (rest ≡ [])) ⊎ ((more : List ℕ) × (rest ≡ codes "," ++ more) × SpellsParts es more)
    → read_run (inner ++ codes ")") (at_place (beginning true) (op ∷ ops) ps) ≡ Some (at_place closed ops (ps ++ (joined op (part e es) ++ Close ∷ [])))
part_read op e es inner first rest ops ps list parts k others (inl h) =
    ap (λ t. read_run (t ++ codes ")") (at_place (beginning true) (op ∷ ops) ps)) (parts ∙ ap (λ r. first ++ r) h.1)
    ∙ last_read op e ops ps first k
    ∙ ap (λ l. Some (at_place closed ops (ps ++ (joined op (part e l) ++ Close ∷ [])))) (sym h.0)
part_read op e es inner first rest ops ps list parts k others (inr h) =
    ap (λ t. read_run (t ++ codes ")") (at_place (beginning true) (op ∷ ops) ps)) (parts ∙ ap (λ r. first ++ r) h.1)
    ∙ next_read op e es ops ps first h.0 list k (others h.0 ((ps ++ parts_of e) ++ Join op ∷ []) h.2)

mutual
  pub spells_read : (e : Expression) (text : List ℕ) (may_close : Bool) (ops : List Operator) (ps : List Part) → Spells e text → Ended text may_close ops ps (ps ++ parts_of e)
  spells_read (fact f) text may_close ops ps h = leaf_read f text may_close ops ps (Fact f) h.0 (ap (λ o. leaf_or o f) h.1)
  spells_read (constant b) text may_close ops ps h = leaf_read (constant_word b) text may_close ops ps (Constant b) h (constant_leaf b)
  spells_read (not_of e) text may_close ops ps h =
      applied_read Not (Spaced (Spells e)) text may_close ops ps (ps ++ parts_of (not_of e)) (λ inner k.
      bracket_read Not inner false ops (ps ++ Open Not ∷ []) ((ps ++ Open Not ∷ []) ++ parts_of e)
      (spaced_read (Spells e) inner false (Not ∷ ops) (ps ++ Open Not ∷ []) _ (λ t l. spells_read e t false (Not ∷ ops) (ps ++ Open Not ∷ []) l) k)
      ∙ ap (λ l. Some (at_place closed ops l)) (simp append_assoc)) h
  spells_read (all_of es) text may_close ops ps h =
      applied_read All (SpellsParts es) text may_close ops ps (ps ++ parts_of (all_of es)) (λ inner k.
      parts_read es All inner ops (ps ++ Open All ∷ []) refl k ∙ ap (λ l. Some (at_place closed ops l)) (append_assoc ps (Open All ∷ []) (joined All es ++ Close ∷ []))) h
  spells_read (any_of es) text may_close ops ps h =
      applied_read Any (SpellsParts es) text may_close ops ps (ps ++ parts_of (any_of es)) (λ inner k.
      parts_read es Any inner ops (ps ++ Open Any ∷ []) refl k ∙ ap (λ l. Some (at_place closed ops l)) (append_assoc ps (Open Any ∷ []) (joined Any es ++ Close ∷ []))) h

  parts_read : (es : Expressions) (op : Operator) (inner : List ℕ) (ops : List Operator) (ps : List Part) → is_list op ≡ true → SpellsParts es inner
      → read_run (inner ++ codes ")") (at_place (beginning true) (op ∷ ops) ps) ≡ Some (at_place closed ops (ps ++ (joined op es ++ Close ∷ [])))
  parts_read no_more op inner ops ps list h = none_read op inner ops ps h
  parts_read (part e es) op inner ops ps list (first, rest, parts, h, after) =
      part_read op e es inner first rest ops ps list parts
      (spaced_read (Spells e) first true (op ∷ ops) ps _ (λ t l. spells_read e t true (op ∷ ops) ps l) h)
      (λ more qs k. parts_read es op more ops qs list k)
      after

-- the whole expression, and the ')' after it
pub expression_read : (e : Expression) (inner : List ℕ) → Spaced (Spells e) inner → read_run (inner ++ codes ")") at_first ≡ Some (at_place finished [] (parts_of e))
expression_read e inner h =
    let k : Ended inner false [] [] (parts_of e) = spaced_read (Spells e) inner false [] [] _ (λ t l. spells_read e t false [] [] l) h in
    run_past read_step inner (codes ")") _ _ k.reads
    ∙ run_cons read_step 41 [] (at_place k.place [] k.left) _ (settled_step k.place [] k.left (parts_of e) 41 refl refl refl k.settles)
