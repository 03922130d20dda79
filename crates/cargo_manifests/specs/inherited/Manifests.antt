-- The manifests in a file: each ends with a NUL byte, which no TOML document contains.
use Rattle.std.specs.Prelude.{◌≡◌, ◌⊎◌, ℕ, List, Bool, None, IsSomeAnd, IsUtf8, nat_eq}
use Rattle.std.specs.List.{AllZip, Any, slice_split}
use Rattle.cargo_workspaces.specs.Workspaces.{Text}
use Rattle.toml.specs.Data.{Data, table}
use Rattle.toml.specs.Parse.{parse_document}

abbrev pub is_nul : ℕ → Bool
is_nul b = nat_eq b 0

-- The texts between NUL bytes. The text after the last one is empty, and so is its document.
abbrev pub pieces : Text → List Text
pieces bytes = slice_split is_nul bytes

-- The text is this TOML document.
abbrev pub IsDocument : Text → Data → Type 0
IsDocument text d = IsUtf8 text × IsSomeAnd (parse_document text) (λ ms. d ≡ table ms)

-- The text is no TOML document.
abbrev pub IsNoDocument : Text → Type 0
IsNoDocument text = (IsUtf8 text → ⊥) ⊎ (IsUtf8 text × (parse_document text ≡ None))

-- THE MANIFESTS in these bytes.
abbrev pub AreManifests : Text → List Data → Type 0
AreManifests bytes ds = AllZip IsDocument (pieces bytes) ds

-- One of the manifests is no TOML document.
abbrev pub IsNoManifests : Text → Type 0
IsNoManifests bytes = Any IsNoDocument (pieces bytes)
