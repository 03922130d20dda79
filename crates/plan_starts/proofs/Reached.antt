-- The nodes that are reached, by any build.
use Rattle.std.proofs.Common.{◌≡◌, ℕ, Bool, List, sym, subst}
use Rattle.std.specs.Prelude.{◌↔◌, IsTrue}
use Rattle.guppy_packages.specs.Tables.{Tables}
use Rattle.guppy_packages.specs.declared.direction.DependencyDirection.TheVariants.{Forward}
use Rattle.feature_labels.specs.Names.{LabelName}
use Rattle.walk_engine.specs.Laws.{every}
use Rattle.walk_engine.specs.Walks.{Content, Least}
use Rattle.feature_core.specs.Built.{Built, IsBuilt}
use Rattle.feature_core.specs.Offers.{content_of}
use Rattle.plan_starts.specs.step_visits.Visits.{IsReached, is_start}

-- the least set of one build is that of each
pub reached_by_any : (t : Tables) (starts : List (ℕ × LabelName)) (built : Built) (initials members : ℕ → Bool) → IsBuilt t built → ((b : Built) → IsBuilt t b → content_of Forward built ≡ content_of Forward b) → ((n : ℕ) → initials n ≡ is_start t starts n) → ((n : ℕ) → IsTrue (members n) ↔ Least (content_of Forward built) initials every n) → (n : ℕ) → IsTrue (members n) ↔ IsReached t starts n
reached_by_any t starts built initials members is one same least n = (
  (λ h b is_too. subst (λ (c : Content). Least c (is_start t starts) every n) (one b is_too) (from ((least n).0 h))),
  (λ r. (least n).1 (back (r built is))),
)
  where
    from : Least (content_of Forward built) initials every n → Least (content_of Forward built) (is_start t starts) every n
    from = subst (λ (I : ℕ → Bool). Least (content_of Forward built) I every n) (λ i k. same k i)

    back : Least (content_of Forward built) (is_start t starts) every n → Least (content_of Forward built) initials every n
    back = subst (λ (I : ℕ → Bool). Least (content_of Forward built) I every n) (λ i k. sym (same k) i)
