-- The titles of packages that differ.
use Rattle.std.specs.Prelude.{List, [], ◌++◌, ◌∷◌, Bool, ◌&&◌, codes, unwrap_or, if◌then◌else◌}
use Rattle.std.specs.Str.{bytes_eq}
use Rattle.cargo_workspaces.specs.Workspaces.{Text, PackageText}
use Rattle.feats_lines.specs.Lines.{label_of, source_text}

-- The names and versions of the packages of both workspaces.
pub record NamesText : Type 0 where
  pub old : List Text
  pub new : List Text

-- Whether both are one version of one source.
abbrev pub is_same : PackageText → PackageText → Bool
is_same old new = bytes_eq old.version new.version && bytes_eq (unwrap_or old.source []) (unwrap_or new.source [])

-- The version; with the source, if `sources`.
abbrev pub version_text : Bool → PackageText → Text
version_text sources p = p.version ++ (if sources then codes " (" ++ (source_text p ++ codes ")") else [])

-- The name and both versions, `NAME OLD -> NEW`; with the sources, if the versions are equal.
abbrev pub moved_title : PackageText → PackageText → Text
moved_title old new =
    new.name ++ (32 ∷ (version_text (bytes_eq old.version new.version) old ++ (codes " -> " ++ version_text (bytes_eq old.version new.version) new)))

-- The label of a package that stays; both versions, if its version or source changes.
abbrev pub changed_title : NamesText → PackageText → PackageText → Text
changed_title names old new = if is_same old new then label_of names.new new else moved_title old new
