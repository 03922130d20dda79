-- Two visits of the same rows are alike.
use Rattle.std.proofs.Common.{◌≡◌, ℕ, Bool, true, false, List, refl, sym, ◌∙◌, subst}
use Rattle.std.specs.Prelude.{IsTrue, Result, Ok}
use Rattle.std.specs.Option.{option_map_or}
use Rattle.digraphs.specs.Bits.{has}
use Rattle.guppy_packages.specs.Rows.{RowText}
use Rattle.guppy_packages.specs.Tables.{Tables}
use Rattle.guppy_packages.specs.declared.row_error.RowError.{RowError}
use Rattle.feature_labels.specs.Names.{LabelName}
use Rattle.plan_starts.specs.step_visits.Visits.{IsReached, IsVisitOf, Visit, node_at, reaches}

same_tables : (t s : Tables) → ◌≡◌ {A = Result Tables RowError} (Ok t) (Ok s) → t ≡ s
same_tables t s h = cc

same_test : (a b : Bool) → (IsTrue a → IsTrue b) → (IsTrue b → IsTrue a) → a ≡ b
same_test true b forth back = sym (forth refl)
same_test false true forth back = back refl
same_test false false forth back = refl

pub alike : (rows : List RowText) (starts : List (ℕ × LabelName)) (u v : Visit) → IsVisitOf rows starts u → IsVisitOf rows starts v → (k : ℕ) (label : LabelName) → reaches u k label ≡ reaches v k label
alike rows starts u v a b k label = λ i. option_map_or (λ n. members n i) (node_at (tables i) k label) false
  where
    one : a.rows_tables ≡ b.rows_tables
    one = same_tables a.rows_tables b.rows_tables (sym a.are_tables ∙ b.are_tables)

    tables : u.tables ≡ v.tables
    tables = a.is_visit.tables ∙ one ∙ sym b.is_visit.tables

    members : (n : ℕ) → has u.members n ≡ has v.members n
    members n =
        same_test (has u.members n) (has v.members n)
        (λ h. (b.is_visit.members n).1 (subst (λ (t : Tables). IsReached t starts n) one ((a.is_visit.members n).0 h)))
        (λ h. (a.is_visit.members n).1 (subst (λ (t : Tables). IsReached t starts n) (sym one) ((b.is_visit.members n).0 h)))
