use Rattle.std.proofs.Common.{◌≡◌, ◌++◌, false, option_map}
use Rattle.std.specs.Prelude.{reverse, vec_len, codes}
use Rattle.std.specs.Str.{bytes_eq}
use Rattle.json.specs.Find.{later_or, get_member}
use Rattle.json.specs.Value.{value_view, members_view}
use Rattle.cargo_json.specs.Faults.{Text}
use Rattle.cargo_json.proofs.parts.split.Given as goal

-- the packages found so far, or still to be found, and the other fields; those kept so far are in reverse
abbrev pub invariant-fields : goal.invariant-fields
invariant-fields l = record {
  taken : later_or (option_map value_view l.packages) (get_member (codes "packages") (members_view l.fields.items)) ≡ get_member (codes "packages") (members_view l.fn.fields.items);
  others : (name : Text) → bytes_eq (codes "packages") name ≡ false → get_member name (members_view (l.fields.items ++ reverse l.rest.items)) ≡ get_member name (members_view l.fn.fields.items);
}

abbrev pub decreases-fields : goal.decreases-fields
decreases-fields l = vec_len l.fields
