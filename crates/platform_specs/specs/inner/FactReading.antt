-- The reader of facts, character by character. If operators are reserved, their bare words are no facts.
use Rattle.std.specs.Prelude.{◌≡◌, ℕ, Bool, true, false, not, ◌&&◌, ◌==◌, List, [], ◌++◌, Option, Some, None, codes, if◌then◌else◌, string_bytes}
use Rattle.std.specs.Char.{encode_utf8}
use Rattle.std.specs.Str.{bytes_eq}
use Rattle.platform_specs.specs.Facts.{FactText}
use Rattle.platform_specs.specs.inner.Runs.{run}
use Rattle.platform_specs.specs.Grammar.{is_space, begins_name, continues_name, is_operator}
use Rattle.platform_specs.specs.declared.fact_reader.FactReader.{FactReader}
use Rattle.platform_specs.specs.declared.fact_reader.Stage.{Stage}
use Rattle.platform_specs.specs.declared.fact_reader.Stage.TheVariants.{Waiting, Raw, Naming, Named, Valued, Quoted, Whole}

-- the part of a fact that has been read
pub data FactState : Type 0 where
  -- nothing yet, or `r#`
  waiting : FactState
  after_raw : FactState
  -- a name, after `r#` or bare; then spaces after it; then '='; then '"' and the value so far
  naming : Bool → List ℕ → FactState
  named : Bool → List ℕ → FactState
  valued : Bool → List ℕ → FactState
  quoted : Bool → List ℕ → List ℕ → FactState
  -- a name and a value
  whole : Bool → List ℕ → List ℕ → FactState

-- the bare word of an operator, if these are reserved
abbrev pub is_taken : Bool → Bool → List ℕ → Bool
is_taken reserved raw name = reserved && (not raw && is_operator name)

-- a character after a name
abbrev pub past_name : Bool → Bool → List ℕ → ℕ → Option FactState
past_name reserved raw name c =
    if is_space c then Some (named raw name)
    else (if c == 61 then (if is_taken reserved raw name then None else Some (valued raw name)) else None)

-- the first character of a name
abbrev pub name_step : Bool → ℕ → Option FactState
name_step raw c = if begins_name c then Some (naming raw (encode_utf8 c)) else None

-- one more character, if a fact can go on with it
abbrev pub fact_step : Bool → FactState → ℕ → Option FactState
fact_step reserved waiting c =
    if is_space c then Some waiting else name_step false c
fact_step reserved after_raw c = name_step true c
fact_step reserved (naming raw name) c =
    if continues_name c then Some (naming raw (name ++ encode_utf8 c))
    else (if c == 35 then (if not raw && bytes_eq name (codes "r") then Some after_raw else None)
    else past_name reserved raw name c)
fact_step reserved (named raw name) c = past_name reserved raw name c
fact_step reserved (valued raw name) c =
    if is_space c then Some (valued raw name) else (if c == 34 then Some (quoted raw name []) else None)
fact_step reserved (quoted raw name value) c =
    if c == 34 then Some (whole raw name value) else Some (quoted raw name (value ++ encode_utf8 c))
fact_step reserved (whole raw name value) c = if is_space c then Some (whole raw name value) else None

-- the fact read so far, if it may end here
abbrev pub fact_end : Bool → FactState → Option FactText
fact_end reserved (naming raw name) = if is_taken reserved raw name then None else Some (record { name = name; value = None })
fact_end reserved (named raw name) = if is_taken reserved raw name then None else Some (record { name = name; value = None })
fact_end reserved (whole raw name value) = Some (record { name = name; value = Some value })
fact_end reserved _ = None

-- all characters in turn
abbrev pub fact_run : Bool → List ℕ → FactState → Option FactState
fact_run reserved = run (fact_step reserved)

-- the state of a reader
abbrev pub fact_state_at : Stage → Bool → List ℕ → List ℕ → FactState
fact_state_at Waiting raw name value = waiting
fact_state_at Raw raw name value = after_raw
fact_state_at Naming raw name value = naming raw name
fact_state_at Named raw name value = named raw name
fact_state_at Valued raw name value = valued raw name
fact_state_at Quoted raw name value = quoted raw name value
fact_state_at Whole raw name value = whole raw name value

abbrev pub fact_state : FactReader → FactState
fact_state r = fact_state_at r.stage r.is_raw (string_bytes r.name) (string_bytes r.value)

-- the result of a reader's step, and its state after the step if it is true
abbrev pub GoesOn : {S : Type 0} → Bool → Option S → S → Type 0
GoesOn true next now = next ≡ Some now
GoesOn false next now = next ≡ None
