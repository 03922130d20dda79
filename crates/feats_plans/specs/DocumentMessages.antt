-- Messages about documents that describe no workspace.
use Rattle.std.specs.Prelude.{◌≡◌, [], ◌∷◌, codes}
use Rattle.cargo_json.specs.Faults.{Refusal, bad_field, repeated, no_package, ambiguous, two_names as read_two_names, control, every_platform, no_deps, out_of_memory, place_text, refusal_of}
use Rattle.cargo_json.specs.declared.fault.Place.{Place}
use Rattle.cargo_workspaces.specs.Workspaces.{Text}
use Rattle.feats_plans.specs.numbered_workspaces.Faults.{NoWorkspace, unread, feature_name, two_names}
use Rattle.feats_plans.specs.declared.numbered_workspaces.fault.WorkspaceFault.{WorkspaceFault}
use Rattle.feats_plans.specs.declared.numbered_workspaces.fault.WorkspaceFault.TheVariants as fault
use Rattle.feats_files.specs.Messages.{joined}

-- The message about a field of an object of the document.
abbrev pub field_message : Place → Text → Text → Text
field_message place name what = joined (codes "the document: " ∷ place_text place ∷ name ∷ what ∷ [])

-- The message about a field that names a package which the document lacks.
abbrev pub package_message : Place → Text → Text → Text
package_message place name id = joined (codes "the document: " ∷ place_text place ∷ name ∷ codes ": no package `" ∷ id ∷ codes "`" ∷ [])

-- The message about a package that depends on another by two names.
abbrev pub names_message : Text → Text → Text → Text → Text
names_message owner target first second =
    joined (codes "the document: package `" ∷ owner ∷ codes "`: dependency on `" ∷ target ∷ codes "` is named `" ∷ first ∷ codes "` and `" ∷ second ∷ codes "`" ∷ [])

-- The message about a refusal: a field of the document is missing, malformed or contradicts another one.
abbrev pub read_message : Refusal → Text
read_message (bad_field place name) = field_message place name (codes ": missing or of another type")
read_message (repeated place) = field_message place (codes "id") (codes ": repeated")
read_message (no_package place name id) = package_message place name id
read_message (ambiguous owner name) = joined (codes "the document: package `" ∷ owner ∷ codes "`: dependency `" ∷ name ∷ codes "` is ambiguous" ∷ [])
read_message (read_two_names owner target first second) = names_message owner target first second
read_message (control text) = joined (codes "the document: control character in `" ∷ text ∷ codes "`" ∷ [])
read_message (every_platform place) = field_message place (codes "target") (codes ": `*` is no platform")
read_message no_deps = joined (codes "the document: resolve: null; the document was made with --no-deps" ∷ [])
read_message out_of_memory = codes "out of memory"

-- The message about a document that describes no workspace.
abbrev pub document_message : NoWorkspace → Text
document_message (unread refusal) = read_message refusal
document_message (feature_name owner name) =
    joined (codes "the document: package `" ∷ owner ∷ codes "`: feature `" ∷ name ∷ codes "` begins with `[`; rename it" ∷ [])
document_message (two_names owner first second) =
    joined (codes "the document: package `" ∷ owner ∷ codes "`: dependencies `" ∷ first ∷ codes "` and `" ∷ second ∷ codes "` are one package; give both one name" ∷ [])

-- The message is that about the fault. The fault of an allocation has none.
abbrev pub IsMessageOf : WorkspaceFault → Text → Type 0
IsMessageOf (fault.Document refused) message = message ≡ document_message (unread (refusal_of refused))
IsMessageOf (fault.FeatureName owner name) message = message ≡ document_message (feature_name owner.now name.now)
IsMessageOf (fault.TwoNames owner first second) message = message ≡ document_message (two_names owner.now first.now second.now)
IsMessageOf fault.Memory message = ⊥
