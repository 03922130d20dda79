-- The unused features and the lines, one after the other.
use Rattle.std.proofs.Common.{◌≡◌, ◌∙◌, ◌<◌, ◌≤◌, ◌+◌, ℕ, zero, suc, ap, refl, sym, subst, List, [], ◌∷◌, ◌++◌, length, map, drop, get_or, Bool, true, false, cond, IsTrue, append_assoc, arith}
use Rattle.std.specs.Prelude.{Some, ◌&&◌, nat_lt, option_map, slice_get}
use Rattle.std.specs.List.{list_all}
use Rattle.std.proofs.Math.ListN.{drop_of_length-le}
use Rattle.std.proofs.lemmas.List.{append-nil}
use Rattle.std.proofs.lemmas.Option.{slice_get-map, slice_get_read}
use Rattle.cargo_workspaces.specs.Workspaces.{FeatureText, PackageText, Text}
use Rattle.feats_unused.specs.Requests.{RequestText, asked_of}
use Rattle.feats_unused.specs.Shown as shown
use Rattle.feats_unused.specs.Shown.{AreLinesAbout, AreLinesOf, ShownText}
use Rattle.feats_unused.specs.Unused as unused
use Rattle.feats_unused.specs.Unused.{AreUnused}
use Rattle.feats_unused.specs.Used.{IsUsed}
use Rattle.feats_unused.specs.inner.Marks.{AreUsed, flag}
use Rattle.feats_unused.proofs.Lists.{cut_at, cut_here}

not_both : {Q : Type 0} (b : Bool) → false ≡ b → b ≡ true → Q
not_both b f t = cc

module _ {X : Type 0} (view : X → FeatureText) (xs : List X) (asked : List Text) (features : List FeatureText) where
  -- the unused among the rest of the features, from feature `i` on
  abbrev pub Rest : ℕ → List Text → Type 0
  Rest i names = AreUnused asked features (map view (drop i xs)) names

  -- one more feature, by whether it is used
  names_by : (i : ℕ) (x : X) (old new rest : List Text) (f b : Bool) → i < length xs → x ≡ get_or xs i x → b ≡ f
      → (IsTrue f → IsUsed asked features (view x).name) → (IsUsed asked features (view x).name → IsTrue f)
      → new ≡ old ++ cond b [] ((view x).name ∷ []) → ((names : List Text) → Rest i names → AreUnused asked features features (old ++ names)) → Rest (i + 1) rest → AreUnused asked features features (new ++ rest)
  names_by i x old new rest f true within is e sound all grown before h =
      subst (λ z. AreUnused asked features features (z ++ rest)) (sym (grown ∙ append-nil old))
      (before rest (subst (λ ys. AreUnused asked features (map view ys) rest) (sym (cut_at xs i x within is)) (unused.used (view x) (map view (drop (i + 1) xs)) rest (sound (sym e)) h)))
  names_by i x old new rest f false within is e sound all grown before h =
      subst (AreUnused asked features features) (sym (ap (λ z. z ++ rest) grown ∙ append_assoc old ((view x).name ∷ []) rest))
      (before ((view x).name ∷ rest) (subst (λ ys. AreUnused asked features (map view ys) ((view x).name ∷ rest)) (sym (cut_at xs i x within is))
      (unused.unused (view x) (map view (drop (i + 1) xs)) rest (λ u. not_both f e (all u)) h)))

  pub names_more : (i : ℕ) (x : X) (flags : List Bool) (b : Bool) (old new rest : List Text) → features ≡ map view xs → i < length xs → x ≡ get_or xs i x → b ≡ flag flags i → AreUsed asked features flags
      → new ≡ old ++ cond b [] ((view x).name ∷ []) → ((names : List Text) → Rest i names → AreUnused asked features features (old ++ names)) → Rest (i + 1) rest → AreUnused asked features features (new ++ rest)
  names_more i x flags b old new rest same within is e are grown before h =
      let at = subst (λ fs. slice_get fs i ≡ Some (view x)) (sym same) (slice_get-map view xs i ∙ ap (option_map view) (slice_get_read xs (length xs) i x refl within is)) in
      let both = are i (view x) at in
      names_by i x old new rest (flag flags i) b within is e both.0 both.1 grown before h

  pub names_end : (i : ℕ) (old : List Text) → length xs ≤ i → ((names : List Text) → Rest i names → AreUnused asked features features (old ++ names)) → AreUnused asked features features old
  names_end i old past before =
      subst (AreUnused asked features features) (append-nil old) (before [] (subst (λ ys. AreUnused asked features (map view ys) []) (sym (drop_of_length-le xs past)) unused.none))

module _ (packages : List PackageText) (requests : List RequestText) (members : List ℕ) where
  -- one more member
  pub lines_more : (i d : ℕ) (x : PackageText) (old new own others : List ShownText) → i < length members → slice_get packages (get_or members i d) ≡ Some x → AreLinesOf (asked_of requests (get_or members i d)) x own
      → new ≡ old ++ own → ((rest : List ShownText) → AreLinesAbout packages requests (drop i members) rest → AreLinesAbout packages requests members (old ++ rest))
      → AreLinesAbout packages requests (drop (i + 1) members) others → AreLinesAbout packages requests members (new ++ others)
  lines_more i d x old new own others within at of grown before h =
      subst (AreLinesAbout packages requests members) (sym (ap (λ z. z ++ others) grown ∙ append_assoc old own others))
      (before (own ++ others) (subst (λ ms. AreLinesAbout packages requests ms (own ++ others)) (sym (cut_here members i d within)) (shown.one (get_or members i d) (drop (i + 1) members) x own others at of h)))

  -- the same, where the members are known by an equation, and so are the features that others ask for
  pub lines_at : (ns : List ℕ) → ns ≡ members → (i d : ℕ) (x : PackageText) (asked : List Text) (old new own others : List ShownText) → i < length ns → slice_get packages (get_or ns i d) ≡ Some x
      → asked ≡ asked_of requests (get_or ns i d) → AreLinesOf asked x own → new ≡ old ++ own
      → ((rest : List ShownText) → AreLinesAbout packages requests (drop i members) rest → AreLinesAbout packages requests members (old ++ rest))
      → AreLinesAbout packages requests (drop (i + 1) members) others → AreLinesAbout packages requests members (new ++ others)
  lines_at ns same i d x asked old new own others within at is of grown before h =
      lines_more i d x old new own others (subst (λ z. i < length z) same within) (subst (λ z. slice_get packages (get_or z i d) ≡ Some x) same at)
      (subst (λ z. AreLinesOf (asked_of requests (get_or z i d)) x own) same (subst (λ a. AreLinesOf a x own) is of)) grown before h

  pub lines_end : (i : ℕ) (old : List ShownText) → length members ≤ i → ((rest : List ShownText) → AreLinesAbout packages requests (drop i members) rest → AreLinesAbout packages requests members (old ++ rest))
      → AreLinesAbout packages requests members old
  lines_end i old past before =
      subst (AreLinesAbout packages requests members) (append-nil old) (before [] (subst (λ ms. AreLinesAbout packages requests ms []) (sym (drop_of_length-le members past)) shown.none))

both_true : (a b : Bool) → (a && b) ≡ true → (a ≡ true) × (b ≡ true)
both_true true b h = (refl, h)
both_true false b h = cc

below : (a b : ℕ) → nat_lt a b ≡ true → a < b
below a b h = grind arith

all_below : (count : ℕ) (ms : List ℕ) (i d : ℕ) → list_all (λ n. nat_lt n count) ms ≡ true → i < length ms → get_or ms i d < count
all_below count [] i d h within = absurd (omega arith)
all_below count (m ∷ ms) zero d h within = below m count (both_true (nat_lt m count) (list_all (λ n. nat_lt n count) ms) h).0
all_below count (m ∷ ms) (suc i) d h within = all_below count ms i d (both_true (nat_lt m count) (list_all (λ n. nat_lt n count) ms) h).1 (omega arith)

-- a member's number is that of a package
pub member_below : (count : ℕ) (ms ns : List ℕ) (i d : ℕ) → list_all (λ n. nat_lt n count) ms ≡ true → ns ≡ ms → i < length ns → get_or ns i d < count
member_below count ms ns i d h same within = all_below count ns i d (subst (λ z. list_all (λ n. nat_lt n count) z ≡ true) (sym same) h) within
