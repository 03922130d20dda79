-- The rows of packages, step by step.
use Rattle.std.proofs.Common.{◌≡◌, ◌∙◌, sym, ap, refl, List, ◌∷◌, ◌++◌, Bool, append_assoc, Bor}
use Rattle.std.specs.Prelude.{Result, Ok, Err}
use Rattle.std.specs.List.{list_any}
use Rattle.std.specs.Str.{bytes_eq}
use Rattle.workspace_documents.specs.declared.packages.Package.{Package}
use Rattle.cargo_json.specs.Faults.{Text, Refusal, IfNotMemory, ◌>>=◌}
use Rattle.workspace_documents.specs.Lists.{ById}
use Rattle.workspace_documents.specs.Nodes.{DepText, NodeText}
use Rattle.workspace_documents.specs.Nodes.{node_of}
use Rattle.cargo_rows.specs.Rows.{package_rows, all_rows}
use Rattle.workspace_documents.specs.Views.{package_view, entries_view}
use Rattle.cargo_rows.specs.inner.Views.{after}
use Rattle.workspace_documents.proofs.Lists.{if_not_memory}

after_first : (first rest : Result Text Refusal) (old new : Text) → after old first ≡ Ok new → after old (first >>= λ a. rest >>= λ b. Ok (a ++ b)) ≡ after new rest
after_first (Ok a) (Ok b) old new e =
    let so : old ++ a ≡ new = cc in
    ap Ok (sym (append_assoc old a b)) ∙ ap (λ x. Ok (x ++ b)) so
after_first (Ok a) (Err r) old new e = refl
after_first (Err r) rest old new e = cc

after_refused : (first rest : Result Text Refusal) (old : Text) (r : Refusal) → after old first ≡ Err r → after old (first >>= λ a. rest >>= λ b. Ok (a ++ b)) ≡ Err r
after_refused (Ok a) rest old r e = cc
after_refused (Err q) rest old r e = e

module _ (members : List Text) (nodes : ById NodeText) (left rest : List (Bor Text × Package)) (id : Bor Text) (p : Package) (is_member : Bool) (uses : List DepText) (whole : Result Text Refusal) (old : Text) (is : left ≡ (id, p) ∷ rest) (member : is_member ≡ list_any (bytes_eq id.now) members) (used : uses ≡ (node_of id.now nodes).deps) (so : whole ≡ after old (all_rows members nodes (entries_view package_view left))) where
  abbrev others : Result Text Refusal
  others = all_rows members nodes (entries_view package_view rest)

  told : whole ≡ after old (package_rows is_member uses (package_view p) >>= λ a. others >>= λ b. Ok (a ++ b))
  told = so ∙ rw (is, sym member, sym used) refl

  pub rows_more : (new : Text) → after old (package_rows is_member uses (package_view p)) ≡ Ok new → whole ≡ after new others
  rows_more new e = told ∙ after_first (package_rows is_member uses (package_view p)) others old new e

  pub rows_refused : (r : Refusal) → IfNotMemory r (after old (package_rows is_member uses (package_view p)) ≡ Err r) → IfNotMemory r (whole ≡ Err r)
  rows_refused r e = if_not_memory r (λ (q : after old (package_rows is_member uses (package_view p)) ≡ Err r). told ∙ after_refused (package_rows is_member uses (package_view p)) others old r q) e
