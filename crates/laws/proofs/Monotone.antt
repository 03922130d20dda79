-- More starts reach more.
use Rattle.std.proofs.Common.{◌≡◌, ℕ, Bool, true, false, List, Option, None, Some, Result, Ok, refl, sym, ◌∙◌, subst}
use Rattle.std.specs.Prelude.{IsTrue}
use Rattle.std.specs.Option.{option_map_or}
use Rattle.digraphs.specs.Bits.{has}
use Rattle.guppy_packages.specs.Tables.{Tables}
use Rattle.guppy_packages.specs.declared.row_error.RowError.{RowError}
use Rattle.guppy_packages.specs.declared.direction.DependencyDirection.TheVariants.{Forward}
use Rattle.feature_labels.specs.Names.{LabelName}
use Rattle.feature_core.specs.Offers.{content_of}
use Rattle.walk_engine.specs.declared.walks.Half.{Half}
use Rattle.walk_engine.specs.Laws.{every}
use Rattle.walk_engine.specs.Walks.{Content, Least}
use Rattle.plan_starts.specs.step_visits.Visits.{IsReached, is_node, is_start, node_at, reaches}
use Rattle.laws.specs.plans.Laws.{AreAmong, MoreStartsReachMore, MoreStartsVisitMore}
use Rattle.laws.proofs.Members.{any_member, member_any}

-- the law of least sets
abbrev pub LeastGrows : Type 0
LeastGrows = (c : Content) (I J : ℕ → Bool) (A B : ℕ → Half → Bool)
    → ((n : ℕ) → IsTrue (I n) → IsTrue (J n)) → ((e : ℕ) (h : Half) → IsTrue (A e h) → IsTrue (B e h)) → (n : ℕ) → Least c I A n → Least c J B n

starts_more : (t : Tables) (starts more : List (ℕ × LabelName)) → AreAmong starts more → (n : ℕ) → IsTrue (is_start t starts n) → IsTrue (is_start t more n)
starts_more t starts more among n h =
    let m = member_any (λ s. is_node (node_at t s.0 s.1) n) starts h in
    any_member (λ s. is_node (node_at t s.0 s.1) n) more m.element (among m.element m.member) m.passes

pub more_reached : LeastGrows → MoreStartsReachMore
more_reached grows t starts more among n r b is =
    grows (content_of Forward b) (is_start t starts) (is_start t more) every every (starts_more t starts more among) (λ e h x. x) n (r b is)

same_tables : (t s : Tables) → ◌≡◌ {A = Result Tables RowError} (Ok t) (Ok s) → t ≡ s
same_tables t s h = cc

pub more_visited : LeastGrows → MoreStartsVisitMore
more_visited grows rows starts more u v among a b k label h =
    go (node_at a.rows_tables k label) refl (subst (λ (z : Tables). option_map_or (has u.members) (node_at z k label) false ≡ true) a.is_visit.tables h)
  where
    one : a.rows_tables ≡ b.rows_tables
    one = same_tables a.rows_tables b.rows_tables (sym a.are_tables ∙ b.are_tables)

    tables : a.rows_tables ≡ v.tables
    tables = one ∙ sym b.is_visit.tables

    go : (o : Option ℕ) → node_at a.rows_tables k label ≡ o → option_map_or (has u.members) o false ≡ true → IsTrue (reaches v k label)
    go None e i = absurd (cc)
    go (Some n) e i =
        let r : IsReached a.rows_tables more n = more_reached grows a.rows_tables starts more among n ((a.is_visit.members n).0 i) in
        let there : has v.members n ≡ true = (b.is_visit.members n).1 (subst (λ (z : Tables). IsReached z more n) one r) in
        subst (λ (z : Tables). option_map_or (has v.members) (node_at z k label) false ≡ true) tables (subst (λ o. option_map_or (has v.members) o false ≡ true) (sym e) there)
