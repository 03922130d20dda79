-- The fields of a value.
use Rattle.json.specs.Json.{Json, null, boolean, number, string, array, object, Members, no_members}

-- the fields of the value if it is an object
abbrev pub fields_of : Json → Members
fields_of null = no_members
fields_of (boolean b) = no_members
fields_of (number s) = no_members
fields_of (string s) = no_members
fields_of (array js) = no_members
fields_of (object ms) = ms
