-- Fields of JSON objects, with their types checked.
use Rattle.std.specs.Prelude.{List, [], ◌∷◌, Bool, Option, Some, None, Result, Ok, Err, option_map, option_and_then}
use Rattle.json.specs.Json.{Json, null, boolean, number, string, array, object, Items, no_items, item, Members}
use Rattle.json.specs.Find.{get, as_str, as_bool, as_array, as_object}
use Rattle.cargo_json.specs.declared.fault.Place.{Place}
use Rattle.cargo_json.specs.Faults.{Text, Refusal, bad_field}

-- the value found under a name in an object, or the refusal that it is missing or of another type
abbrev pub wanted : {X : Type 0} → Place → Text → Option X → Result X Refusal
wanted place name (Some x) = Ok x
wanted place name None = Err (bad_field place name)

-- a text, or `None` for null
abbrev pub as_text_or_null : Json → Option (Option Text)
as_text_or_null null = Some None
as_text_or_null (boolean b) = None
as_text_or_null (number n) = None
as_text_or_null (string s) = Some (Some s)
as_text_or_null (array ds) = None
as_text_or_null (object ms) = None

-- the items, if each is a text
abbrev pub all_texts : Items → Option (List Text)
all_texts no_items = Some []
all_texts (item d ds) = option_and_then (λ s. option_map (λ rest. s ∷ rest) (all_texts ds)) (as_str d)

abbrev pub text_in : Place → Text → Json → Result Text Refusal
text_in place name d = wanted place name (option_and_then as_str (get name d))

abbrev pub optional_text_in : Place → Text → Json → Result (Option Text) Refusal
optional_text_in place name d = wanted place name (option_and_then as_text_or_null (get name d))

abbrev pub flag_in : Place → Text → Json → Result Bool Refusal
flag_in place name d = wanted place name (option_and_then as_bool (get name d))

abbrev pub list_in : Place → Text → Json → Result Items Refusal
list_in place name d = wanted place name (option_and_then as_array (get name d))

abbrev pub object_in : Place → Text → Json → Result Members Refusal
object_in place name d = wanted place name (option_and_then as_object (get name d))

abbrev pub texts_in : Place → Text → Json → Result (List Text) Refusal
texts_in place name d = wanted place name (option_and_then all_texts (option_and_then as_array (get name d)))
