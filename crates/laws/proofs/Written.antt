-- The lines of a document's text are read as the document's rows.
use Rattle.std.proofs.Common.{◌≡◌, Bool, true, false, List, [], ◌∷◌, ◌++◌, map, Option, Some, None, Result, Ok, refl, ap, sym, ◌∙◌, subst}
use Rattle.std.specs.Prelude.{codes}
use Rattle.std.specs.List.{AllByRecursion, list_any}
use Rattle.std.specs.Str.{bytes_eq}
use Rattle.std.specs.Map.{keys_of}
use Rattle.cargo_json.specs.Faults.{Text, Refusal, ◌>>=◌}
use Rattle.cargo_workspaces.specs.Workspaces.{FeatureText}
use Rattle.cargo_workspaces.specs.declared.package.Kind.{Kind}
use Rattle.cargo_workspaces.specs.declared.package.Kind.TheVariants as kind
use Rattle.workspace_documents.specs.Dependencies.{DependencyText, agree, dependencies_of}
use Rattle.workspace_documents.specs.Lists.{ById, joined}
use Rattle.workspace_documents.specs.Nodes.{DepText, NodeText, node_of, resolved_in}
use Rattle.workspace_documents.specs.Packages.{PackageText, packages_in}
use Rattle.workspace_documents.specs.Rules.{HasSortedFeatures}
use Rattle.workspace_documents.proofs.Sorted.{both_ok, ok_same}
use Rattle.workspace_documents.proofs.Known.{resolved_known}
use Rattle.cargo_rows.specs.Rows.{defaults_word, dependency_fields, dependency_rows, feature_fields, feature_rows, kind_word, led_rows, member_word, need_word, platform_text, row, rows_of, all_rows as written_rows, package_rows as written_package}
use Rattle.guppy_packages.specs.Rows.{RowText, a_package}
use Rattle.guppy_packages.specs.Graph.{faults_of, first_or, links_of, packages_of, tables_of, dependencies_of as dependencies_of_rows}
use Rattle.guppy_packages.specs.Tables.{Tables}
use Rattle.row_files.specs.RowOfLine.{choice, platform_of, row_of, kind_of as read_kind}
use Rattle.row_files.specs.Lines.{kept_lines, lines_in}
use Rattle.row_files.specs.RowFile.{by_line}
use Rattle.laws.specs.rows.Laws.{WrittenRowsAreRead}
use Rattle.laws.specs.rows.Rows.{all_rows, dependency_row, feature_row, kind_of, package_rows}
use Rattle.laws.proofs.LineRows.{Reads, read_all, reads_both, reads_none, reads_row, tables_read}
use Rattle.laws.proofs.Platforms.{AllPlain, ArePlain, ArePlainDependencies, IsPlain, dependencies_plain, packages_plain}
use Rattle.laws.proofs.Documents.{NodesKnown, agreed, all_fresh, dependencies_known, packages_entries}
use Rattle.laws.proofs.NoFaults.{no_faults}
use Rattle.laws.proofs.Sections.{Agree, AreFresh, IsSound, Section, ids_of, names_of, rows_in}

-- ---- the words

member_read : (b : Bool) → choice (codes "workspace") (codes "external") (member_word b) ≡ Some b
member_read true = refl
member_read false = refl

kind_read : (k : Kind) → read_kind (kind_word k) ≡ Some (kind_of k)
kind_read kind.Normal = refl
kind_read kind.Build = refl
kind_read kind.Development = refl

need_read : (b : Bool) → choice (codes "optional") (codes "required") (need_word b) ≡ Some b
need_read true = refl
need_read false = refl

defaults_read : (b : Bool) → choice (codes "default") (codes "nodefault") (defaults_word b) ≡ Some b
defaults_read true = refl
defaults_read false = refl

platform_read : (p : Option Text) → IsPlain p → platform_of (platform_text p) ≡ p
platform_read None h = refl
platform_read (Some s) h = rw h refl

-- ---- the rows

package_read : (id : Text) (b : Bool) → row_of (codes "package" ∷ id ∷ member_word b ∷ []) ≡ Some (a_package id b)
package_read id true = refl
package_read id false = refl

dependency_read : (e : DependencyText) → IsPlain e.declaration.platform → row_of (codes "dep" ∷ dependency_fields e) ≡ Some (dependency_row e)
dependency_read e h =
    rw (kind_read e.declaration.kind, need_read e.declaration.is_optional, defaults_read e.declaration.has_default_features, platform_read e.declaration.platform h) refl

-- joined texts are read as all their rows
joined_reads : {X : Type 0} (told : X → Result Text Refusal) (meant : X → RowText) (P : X → Type 0) → ((x : X) (text : Text) → P x → told x ≡ Ok text → Reads text (meant x ∷ [])) → (xs : List X) (text : Text) → AllByRecursion P xs → joined told xs ≡ Ok text → Reads text (map meant xs)
joined_reads told meant P one [] text all e = subst (λ z. Reads z []) (ok_same [] text e) reads_none
joined_reads told meant P one (x ∷ xs) text all e =
    let first = both_ok (told x) (λ a. joined told xs >>= λ rest. Ok (a ++ rest)) text e in
    let rest = both_ok (joined told xs) (λ rest. Ok (first.0 ++ rest)) text first.2 in
    subst (λ z. Reads z (map meant (x ∷ xs))) (ok_same (first.0 ++ rest.0) text rest.2)
    (reads_both first.0 rest.0 (meant x ∷ []) (map meant xs) (one x first.0 all.0 first.1) (joined_reads told meant P one xs rest.0 all.1 rest.1))

none_asked : {X : Type 0} (xs : List X) → AllByRecursion (λ _. Unit {0}) xs
none_asked [] = tt
none_asked (x ∷ xs) = (tt, none_asked xs)

features_read : (features : List FeatureText) (text : Text) → feature_rows features ≡ Ok text → Reads text (map feature_row features)
features_read features text e =
    joined_reads (λ f. row (codes "feature") (feature_fields f)) feature_row (λ _. Unit {0})
    (λ f t h is. reads_row (codes "feature") (feature_fields f) (feature_row f) t (refl, refl) refl is)
    features text (none_asked features) e

dependencies_read : (es : List DependencyText) (text : Text) → ArePlainDependencies es → dependency_rows es ≡ Ok text → Reads text (map dependency_row es)
dependencies_read es text all e =
    joined_reads (λ x. row (codes "dep") (dependency_fields x)) dependency_row (λ (x : DependencyText). IsPlain x.declaration.platform)
    (λ x t h is. reads_row (codes "dep") (dependency_fields x) (dependency_row x) t (refl, refl) (dependency_read x h) is)
    es text all e

-- Declarations that lead to a package, and the text of their rows.
record AreLed (deps : List DepText) (p : PackageText) (text : Text) : Type 0 where
  es : List DependencyText
  are : dependencies_of p deps ≡ Ok es
  agree : Agree es
  reads : Reads text (map dependency_row es)

led_read : (deps : List DepText) (p : PackageText) (text : Text) → ArePlain p → led_rows deps p ≡ Ok text → AreLed deps p text
unfolding led_rows
led_read deps p text all e =
    let es = both_ok (dependencies_of p deps) (λ es. agree p.id es es >>= λ _. dependency_rows es) text e in
    let same = both_ok (agree p.id es.0 es.0) (λ _. dependency_rows es.0) text es.2 in
    record { es = es.0; are = es.1; agree = agreed p.id es.0 same.0 same.1; reads = dependencies_read es.0 text (dependencies_plain p deps es.0 all es.1) same.2 }

moved : (s t : Text) (rows : List RowText) → s ≡ t → Reads s rows → Reads t rows
moved s t rows e r = subst (λ z. Reads z rows) e r

-- The text of a package's rows.
record IsPackageRead (is_member : Bool) (deps : List DepText) (p : PackageText) (text : Text) : Type 0 where
  es : List DependencyText
  are : dependencies_of p deps ≡ Ok es
  agree : Agree es
  reads : Reads text (package_rows is_member p es)

package_read_back : (is_member : Bool) (deps : List DepText) (p : PackageText) (text : Text) → ArePlain p → written_package is_member deps p ≡ Ok text → IsPackageRead is_member deps p text
unfolding written_package
package_read_back is_member deps p text all e =
    let first = both_ok (row (codes "package") (p.id ∷ member_word is_member ∷ [])) (λ first. feature_rows p.features >>= λ features. led_rows deps p >>= λ dependencies. Ok ((first ++ features) ++ dependencies)) text e in
    let features = both_ok (feature_rows p.features) (λ features. led_rows deps p >>= λ dependencies. Ok ((first.0 ++ features) ++ dependencies)) text first.2 in
    let led = both_ok (led_rows deps p) (λ dependencies. Ok ((first.0 ++ features.0) ++ dependencies)) text features.2 in
    let found = led_read deps p led.0 all led.1 in
    let own : Reads first.0 (a_package p.id is_member ∷ []) = reads_row (codes "package") (p.id ∷ member_word is_member ∷ []) (a_package p.id is_member) first.0 (refl, refl) (package_read p.id is_member) first.1 in
    let front = reads_both first.0 features.0 (a_package p.id is_member ∷ []) (map feature_row p.features) own (features_read p.features features.0 features.1) in
    record {
      es = found.es;
      are = found.are;
      agree = found.agree;
      reads = moved ((first.0 ++ features.0) ++ led.0) text (package_rows is_member p found.es) (ok_same ((first.0 ++ features.0) ++ led.0) text led.2)
          (reads_both (first.0 ++ features.0) led.0 (a_package p.id is_member ∷ map feature_row p.features) (map dependency_row found.es) front found.reads);
    }

module _ (members : List Text) (nodes : ById NodeText) (whole : ById PackageText) (known : NodesKnown whole nodes) where
  -- The rows of packages, and their text.
  record AreAllRead (packages : ById PackageText) (text : Text) : Type 0 where
    sections : List Section
    are : all_rows members nodes packages ≡ Ok (rows_in sections)
    reads : Reads text (rows_in sections)
    ids : ids_of sections ≡ keys_of packages
    sound : AllByRecursion (IsSound (keys_of whole)) sections

  all_read : (packages : ById PackageText) (text : Text) → AllPlain packages → AllByRecursion (λ (e : Text × PackageText). e.1.id ≡ e.0) packages → AllByRecursion (λ (e : Text × PackageText). HasSortedFeatures e.1) packages → written_rows members nodes packages ≡ Ok text → AreAllRead packages text
  all_read [] text all own sorted e = record { sections = []; are = refl; reads = subst (λ z. Reads z []) (ok_same [] text e) reads_none; ids = refl; sound = tt }
  all_read (x ∷ packages) text all own sorted e =
      let is_member : Bool = list_any (bytes_eq x.0) members in
      let first = both_ok (written_package is_member (node_of x.0 nodes).deps x.1) (λ a. written_rows members nodes packages >>= λ rest. Ok (a ++ rest)) text e in
      let rest = both_ok (written_rows members nodes packages) (λ rest. Ok (first.0 ++ rest)) text first.2 in
      let one = package_read_back is_member (node_of x.0 nodes).deps x.1 first.0 all.0 first.1 in
      let others = all_read packages rest.0 all.1 own.1 sorted.1 rest.1 in
      record {
        sections = record { is_member = is_member; text = x.1; es = one.es } ∷ others.sections;
        are =
            ap (λ r. r >>= λ es. all_rows members nodes packages >>= λ rows. Ok (package_rows is_member x.1 es ++ rows)) one.are
            ∙ ap (λ r. r >>= λ rows. Ok (package_rows is_member x.1 one.es ++ rows)) others.are;
        reads = moved (first.0 ++ rest.0) text (package_rows is_member x.1 one.es ++ rows_in others.sections) (ok_same (first.0 ++ rest.0) text rest.2)
            (reads_both first.0 rest.0 (package_rows is_member x.1 one.es) (rows_in others.sections) one.reads others.reads);
        ids = ap (λ z. z ∷ ids_of others.sections) own.0 ∙ ap (λ z. x.0 ∷ z) others.ids;
        sound = (record { names = all_fresh (names_of x.1.features) sorted.0; known = dependencies_known whole x.0 nodes x.1 one.es known one.are; agree = one.agree }, others.sound);
      }

abbrev tables_by : List RowText → Tables
tables_by rows = record { packages = packages_of rows; links = links_of (dependencies_of_rows (packages_of rows) rows) }

rows_sound : (rows : List RowText) → faults_of rows ≡ [] → tables_of rows ≡ Ok (tables_by rows)
rows_sound rows none = ap (λ faults. first_or faults (tables_by rows)) none

pub written_rows_are_read : WrittenRowsAreRead
unfolding rows_of
written_rows_are_read d text e =
    let packages = both_ok (packages_in d) (λ packages. resolved_in packages d >>= λ resolved. written_rows resolved.members resolved.nodes packages) text e in
    let resolved = both_ok (resolved_in packages.0 d) (λ resolved. written_rows resolved.members resolved.nodes packages.0) text packages.2 in
    let entries = packages_entries d packages.0 packages.1 in
    let all = all_read resolved.0.members resolved.0.nodes packages.0 (resolved_known packages.0 entries.own d resolved.0 resolved.1).1 packages.0 text (packages_plain d packages.0 packages.1) entries.own entries.features resolved.2 in
    let fresh : AreFresh [] (ids_of all.sections) = subst (AreFresh []) (sym all.ids) (all_fresh (keys_of packages.0) entries.ascend) in
    let none : faults_of (rows_in all.sections) ≡ [] = no_faults all.sections fresh (subst (λ ids. AllByRecursion (IsSound ids) all.sections) (sym all.ids) all.sound) in
    let sound : tables_of (rows_in all.sections) ≡ Ok (tables_by (rows_in all.sections)) = rows_sound (rows_in all.sections) none in
    let lines = read_all text (rows_in all.sections) all.reads in (
      rows_in all.sections,
      record {
        meant =
            ap (λ r. r >>= λ packages. resolved_in packages d >>= λ resolved. all_rows resolved.members resolved.nodes packages) packages.1
            ∙ ap (λ r. r >>= λ resolved. all_rows resolved.members resolved.nodes packages.0) resolved.1
            ∙ all.are;
        lines = lines;
        tables = tables_by (rows_in all.sections);
        sound = sound;
        read_tables = λ utf8. tables_read text (rows_in all.sections) lines utf8 ∙ ap (by_line (kept_lines 1 (lines_in text))) sound;
      },
    )
