-- The packages that start.
use Rattle.std.proofs.Common.{◌≡◌, ◌&&◌, ◌∙◌, ℕ, Bool, true, false, List, ap, if◌then◌else◌}
use Rattle.std.specs.Prelude.{None, Option}
use Rattle.digraphs.specs.Bits.{has}
use Rattle.plan_rows.specs.Tables.{each_from}
use Rattle.plan_starts.specs.Lists.{first_from}
use Rattle.plan_starts.specs.Starts.{Starts, first_unmet, is_among, started, starts_of, starts_on_host, unmet_target}
use Rattle.plan_starts.specs.Targets.{TargetRules, builds}

-- by the set of the selected packages, or by their list
pub started_among : (r : TargetRules) (selected : List ℕ) (marks : List Bool) (dev macros : Bool) (flags : List Bool) → ((k : ℕ) → has marks k ≡ is_among selected k) → flags ≡ each_from (λ p x. has marks p && builds r dev macros p x) 0 r.packages → flags ≡ started r selected dev macros
started_among r selected marks dev macros flags same is =
    is ∙ ap (λ (h : ℕ → Bool). each_from (λ p x. h p && builds r dev macros p x) 0 r.packages) (λ i k. same k i)

-- the same for the first target that isn't met
pub unmet_among : (r : TargetRules) (selected : List ℕ) (marks : List Bool) (found : Option (ℕ × ℕ)) → ((k : ℕ) → has marks k ≡ is_among selected k)
    → found ≡ first_from (λ p x. if has marks p then first_from (unmet_target r p x) 0 x.targets else None) 0 r.packages → found ≡ first_unmet r selected
unmet_among r selected marks found same is =
    is ∙ ap (λ (h : ℕ → Bool). first_from (λ p x. if h p then first_from (unmet_target r p x) 0 x.targets else None) 0 r.packages) (λ i k. same k i)

pub starts_are : (r : TargetRules) (selected : List ℕ) (macros others hosts told_macros told_others dev_macros dev_others : List Bool) (unmet : Option (ℕ × ℕ)) → macros ≡ started r selected false true → others ≡ started r selected false false
    → told_macros ≡ macros → told_others ≡ others → hosts ≡ each_from (starts_on_host told_macros told_others) 0 r.packages
    → dev_macros ≡ started r selected true true → dev_others ≡ started r selected true false → unmet ≡ first_unmet r selected
    → ◌≡◌ {A = Starts} (record { macros = macros; others = others; hosts = hosts; dev_macros = dev_macros; dev_others = dev_others; unmet = unmet }) (starts_of r selected)
starts_are r selected macros others hosts told_macros told_others dev_macros dev_others unmet e f m o h d t u =
    let e_told = m ∙ e in
    let f_told = o ∙ f in
    let flags : hosts ≡ each_from (starts_on_host (started r selected false true) (started r selected false false)) 0 r.packages = h ∙ (λ i. each_from (starts_on_host (e_told i) (f_told i)) 0 r.packages) in
    λ i. record { macros = e i; others = f i; hosts = flags i; dev_macros = d i; dev_others = t i; unmet = u i }
