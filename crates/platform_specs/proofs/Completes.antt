-- Every beginning of an expression that was read can be completed.
use Rattle.std.proofs.Common.{◌≡◌, ℕ, ◌⊎◌, Bool, true, false, cond, ◌||◌, List, [], ◌∷◌, ◌++◌, Some, None, refl, ap, ◌∙◌, inl, inr}
use Rattle.std.specs.Prelude.{codes}
use Rattle.std.specs.Str.{bytes_eq}
use Rattle.platform_specs.specs.Facts.{FactText}
use Rattle.platform_specs.specs.Grammar.{is_operator}
use Rattle.platform_specs.specs.inner.FactReading.{FactState, waiting, after_raw, naming, named, valued, quoted, whole, is_taken, fact_end}
use Rattle.platform_specs.specs.inner.Reading.{Place, beginning, item, closed, finished, Reading, operator_named, operator_at, is_list, past_word, read_step, read_run}
use Rattle.platform_specs.specs.declared.parts.Operator.{Operator}
use Rattle.platform_specs.specs.declared.parts.Operator.TheVariants.{All, Any, Not}
use Rattle.platform_specs.specs.declared.parts.Part.{Part}
use Rattle.platform_specs.specs.declared.parts.Part.TheVariants.{Open, Join, Close}
use Rattle.platform_specs.proofs.Runs.{run_cons}
use Rattle.platform_specs.proofs.FactRuns.{raw_step, begin_step}
use Rattle.platform_specs.proofs.ReadRuns.{at_place, settled, settled_fact, settled_step, lift_step, first_step}

-- some characters complete the expression
pub record Completes (r : Reading) : Type 0 where
  pub more : List ℕ
  pub state : Reading
  pub reads : read_run more r ≡ Some state
  pub ends : state.place ≡ finished

-- one more character in front of those
complete_by : (c : ℕ) (r s : Reading) → read_step r c ≡ Some s → Completes s → Completes r
complete_by c r s e k = record { more = c ∷ k.more; state = k.state; reads = run_cons read_step c k.more r s e ∙ k.reads; ends = k.ends }

-- an expression that may end is completed by ')' for each open bracket
pub close_all : (ops : List Operator) (place : Place) (ps qs : List Part) → settled place ps ≡ Some qs → Completes (at_place place ops ps)
close_all [] place ps qs e = record {
  more = 41 ∷ [];
  state = at_place finished [] qs;
  reads = run_cons read_step 41 [] (at_place place [] ps) _ (settled_step place [] ps qs 41 refl refl refl e);
  ends = refl;
}
close_all (op ∷ ops) place ps qs e =
    complete_by 41 (at_place place (op ∷ ops) ps) (at_place closed ops (qs ++ Join op ∷ Close ∷ [])) (settled_step place (op ∷ ops) ps qs 41 refl refl refl e)
    (close_all ops closed (qs ++ Join op ∷ Close ∷ []) _ refl)

-- at the beginning of an expression a name completes it
begin_completes : (may_close : Bool) (ops : List Operator) (ps : List Part) → Completes (at_place (beginning may_close) ops ps)
begin_completes may_close ops ps =
    complete_by 97 (at_place (beginning may_close) ops ps) _ (first_step may_close ops ps 97 refl) (close_all ops (item (naming false (97 ∷ []))) ps _ refl)

operator_found : (a b c : Bool) → (a || (b || c)) ≡ true → (op : Operator) × (cond a (Some All) (cond b (Some Any) (cond c (Some Not) None)) ≡ Some op)
operator_found true b c e = (All, refl)
operator_found false true c e = (Any, refl)
operator_found false false true e = (Not, refl)
operator_found false false false e = cc

operator_of : (n : List ℕ) → is_operator n ≡ true → (op : Operator) × (operator_named n ≡ Some op)
operator_of n e = operator_found (bytes_eq n (codes "all")) (bytes_eq n (codes "any")) (bytes_eq n (codes "not")) e

-- after an operator's word a '(' goes on
word_completes : (ops : List Operator) (ps : List Part) (s : FactState) (op : Operator) → operator_at s ≡ Some op → Completes (at_place (item s) ops ps)
word_completes ops ps s op e =
    complete_by 40 (at_place (item s) ops ps) (at_place (beginning (is_list op)) (op ∷ ops) (ps ++ Open op ∷ [])) (ap (past_word ops ps s) e)
    (begin_completes (is_list op) (op ∷ ops) (ps ++ Open op ∷ []))

name_completes : (ops : List Operator) (ps : List Part) (raw : Bool) (n : List ℕ) (s : FactState) → (s ≡ naming raw n) ⊎ (s ≡ named raw n)
    → (b : Bool) → is_taken true raw n ≡ b → Completes (at_place (item s) ops ps)
name_completes ops ps raw n s is false e =
    let f : FactText = record { name = n; value = None } in
    let ends : fact_end true s ≡ Some f = elim is [
      | inl i ↦ ap (fact_end true) i ∙ ap (λ b. cond b None (Some f)) e
      | inr i ↦ ap (fact_end true) i ∙ ap (λ b. cond b None (Some f)) e
    ] in
    close_all ops (item s) ps _ (ap (settled_fact ps) ends)
name_completes ops ps true n s is true e = cc
name_completes ops ps false n s is true e =
    let k = operator_of n e in
    let at : operator_at s ≡ Some k.0 = elim is [ inl i ↦ ap operator_at i ∙ k.1 | inr i ↦ ap operator_at i ∙ k.1 ] in
    word_completes ops ps s k.0 at

item_completes : (ops : List Operator) (ps : List Part) (s : FactState) → Completes (at_place (item s) ops ps)
item_completes ops ps waiting =
    complete_by 97 (at_place (item waiting) ops ps) _ (lift_step ops ps waiting (naming false (97 ∷ [])) 97 (begin_step true 97 refl)) (close_all ops (item (naming false (97 ∷ []))) ps _ refl)
item_completes ops ps after_raw =
    complete_by 97 (at_place (item after_raw) ops ps) _ (lift_step ops ps after_raw (naming true (97 ∷ [])) 97 (raw_step true 97 refl)) (close_all ops (item (naming true (97 ∷ []))) ps _ refl)
item_completes ops ps (naming raw n) = name_completes ops ps raw n (naming raw n) (inl refl) (is_taken true raw n) refl
item_completes ops ps (named raw n) = name_completes ops ps raw n (named raw n) (inr refl) (is_taken true raw n) refl
item_completes ops ps (valued raw n) =
    complete_by 34 (at_place (item (valued raw n)) ops ps) _ (lift_step ops ps (valued raw n) (quoted raw n []) 34 refl)
    (complete_by 34 (at_place (item (quoted raw n [])) ops ps) _ (lift_step ops ps (quoted raw n []) (whole raw n []) 34 refl)
    (close_all ops (item (whole raw n [])) ps _ refl))
item_completes ops ps (quoted raw n v) =
    complete_by 34 (at_place (item (quoted raw n v)) ops ps) _ (lift_step ops ps (quoted raw n v) (whole raw n v) 34 refl)
    (close_all ops (item (whole raw n v)) ps _ refl)
item_completes ops ps (whole raw n v) = close_all ops (item (whole raw n v)) ps _ refl

-- every position can be completed
pub completes : (place : Place) (ops : List Operator) (ps : List Part) → Completes (at_place place ops ps)
completes (beginning may_close) ops ps = begin_completes may_close ops ps
completes (item s) ops ps = item_completes ops ps s
completes closed ops ps = close_all ops closed ps ps refl
completes finished ops ps = record { more = []; state = at_place finished ops ps; reads = refl; ends = refl }
