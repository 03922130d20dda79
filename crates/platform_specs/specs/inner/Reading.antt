-- The reader of expressions, character by character, from after `cfg(` to the closing `)`.
use Rattle.std.specs.Prelude.{ℕ, Bool, true, false, ◌==◌, ◌||◌, List, [], ◌∷◌, ◌++◌, reverse, Option, Some, None, codes, if◌then◌else◌}
use Rattle.std.specs.Str.{bytes_eq}
use Rattle.platform_specs.specs.Facts.{FactText}
use Rattle.platform_specs.specs.inner.Runs.{run}
use Rattle.platform_specs.specs.Grammar.{is_space, constant_at}
use Rattle.platform_specs.specs.inner.FactReading.{FactState, waiting, naming, named, fact_step, fact_end, fact_state}
use Rattle.platform_specs.specs.declared.parts.Operator.{Operator}
use Rattle.platform_specs.specs.declared.parts.Operator.TheVariants.{All, Any, Not}
use Rattle.platform_specs.specs.declared.parts.Part.{Part}
use Rattle.platform_specs.specs.declared.parts.Part.TheVariants.{Open, Constant, Fact, Join, Close}
use Rattle.platform_specs.specs.declared.expression_reader.ExpressionReader.{ExpressionReader}
use Rattle.platform_specs.specs.declared.expression_reader.Stage.{Stage}
use Rattle.platform_specs.specs.declared.expression_reader.Stage.TheVariants.{Beginning, Item, Closed, Finished}

pub data Place : Type 0 where
  -- an expression begins here; if true, its list may end here instead
  beginning : Bool → Place
  -- in a fact, or in an operator's word
  item : FactState → Place
  -- after an operator's ')'
  closed : Place
  -- after the last ')'
  finished : Place

-- the position, the operators with open brackets from the innermost out, and the parts so far
pub record Reading : Type 0 where
  pub place : Place
  pub open_ones : List Operator
  pub parts : List Part

abbrev pub operator_named : List ℕ → Option Operator
operator_named name =
    if bytes_eq name (codes "all") then Some All
    else (if bytes_eq name (codes "any") then Some Any
    else (if bytes_eq name (codes "not") then Some Not else None))

-- the operator whose word has just been read
abbrev pub operator_at : FactState → Option Operator
operator_at (naming false name) = operator_named name
operator_at (named false name) = operator_named name
operator_at _ = None

abbrev pub is_list : Operator → Bool
is_list All = true
is_list Any = true
is_list Not = false

-- a fact as a part, or the constant that it spells
abbrev pub leaf_or : Option Bool → FactText → Part
leaf_or (Some b) f = Constant b
leaf_or None f = Fact f

abbrev pub leaf : FactText → Part
leaf f = leaf_or (constant_at f.name f.value) f

-- ',' after a part
abbrev pub past_comma : List Operator → List Part → Option Reading
past_comma [] ps = None
past_comma (All ∷ ops) ps = Some (record { place = beginning true; open_ones = All ∷ ops; parts = ps ++ Join All ∷ [] })
past_comma (Any ∷ ops) ps = Some (record { place = beginning true; open_ones = Any ∷ ops; parts = ps ++ Join Any ∷ [] })
past_comma (Not ∷ ops) ps = None

-- ')' after a part
abbrev pub past_bracket : List Operator → List Part → Option Reading
past_bracket [] ps = Some (record { place = finished; open_ones = []; parts = ps })
past_bracket (op ∷ ops) ps = Some (record { place = closed; open_ones = ops; parts = ps ++ Join op ∷ Close ∷ [] })

-- a character after a part
abbrev pub past_part : List Operator → List Part → ℕ → Option Reading
past_part ops ps c = if c == 44 then past_comma ops ps else (if c == 41 then past_bracket ops ps else None)

-- ')' where a part may begin
abbrev pub past_list : List Operator → List Part → Option Reading
past_list [] ps = None
past_list (op ∷ ops) ps = Some (record { place = closed; open_ones = ops; parts = ps ++ Close ∷ [] })

-- the same brackets and parts, in a fact
abbrev pub in_item : List Operator → List Part → Option FactState → Option Reading
in_item ops ps None = None
in_item ops ps (Some s) = Some (record { place = item s; open_ones = ops; parts = ps })

-- '(' after an operator's word, or as part of a fact
abbrev pub past_word : List Operator → List Part → FactState → Option Operator → Option Reading
past_word ops ps s None = in_item ops ps (fact_step true s 40)
past_word ops ps s (Some op) = Some (record { place = beginning (is_list op); open_ones = op ∷ ops; parts = ps ++ Open op ∷ [] })

-- ',' or ')' after a fact, or as part of it
abbrev pub past_fact : List Operator → List Part → FactState → ℕ → Option FactText → Option Reading
past_fact ops ps s c None = in_item ops ps (fact_step true s c)
past_fact ops ps s c (Some f) = past_part ops (ps ++ leaf f ∷ []) c

-- one more character, if an expression can go on with it
abbrev pub step_at : Place → List Operator → List Part → ℕ → Option Reading
step_at (beginning may_close) ops ps c =
    if is_space c then Some (record { place = beginning may_close; open_ones = ops; parts = ps })
    else (if c == 41 then (if may_close then past_list ops ps else None)
    else in_item ops ps (fact_step true waiting c))
step_at (item s) ops ps c =
    if c == 40 then past_word ops ps s (operator_at s)
    else (if (c == 44) || (c == 41) then past_fact ops ps s c (fact_end true s)
    else in_item ops ps (fact_step true s c))
step_at closed ops ps c =
    if is_space c then Some (record { place = closed; open_ones = ops; parts = ps }) else past_part ops ps c
step_at finished ops ps c = None

abbrev pub read_step : Reading → ℕ → Option Reading
read_step r c = step_at r.place r.open_ones r.parts c

-- all characters in turn
abbrev pub read_run : List ℕ → Reading → Option Reading
read_run = run read_step

-- after `cfg(`
abbrev pub at_first : Reading
at_first = record { place = beginning false; open_ones = []; parts = [] }

-- the position of a reader
abbrev pub place_at : Stage → FactState → Place
place_at (Beginning may_close) s = beginning may_close
place_at Item s = item s
place_at Closed s = closed
place_at Finished s = finished

abbrev pub reading : ExpressionReader → Reading
reading r = record { place = place_at r.stage (fact_state r.fact); open_ones = reverse r.operators.items; parts = r.parts.items }
