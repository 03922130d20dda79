-- Look-ups among the platforms that declarations share.
use Rattle.std.proofs.Common.{◌≡◌, zero, suc, List, [], ◌∷◌, Bool, true, false, cond, Some, Result, Ok, Err, Global, String, refl, subst, arith}
use Rattle.std.specs.Prelude.{All, IfOk, MatchResult, if◌then◌else◌}
use Rattle.std.specs.Cmp.Lexicographic.{bytes_decides}
use Rattle.std.specs.Map.{lookup}
use Rattle.std.specs.String.{string_bytes, string_eq}
use Rattle.indexmap.specs.IndexMap.{insert_entry}
use Rattle.guppy_packages.specs.Rows.{Text}

all_first : {X : Type 0} (P : X → Type 0) (x : X) (xs : List X) → All P (x ∷ xs) → P x
all_first P x xs all = all 0 x (omega arith)

all_later : {X : Type 0} (P : X → Type 0) (x : X) (xs : List X) → All P (x ∷ xs) → All P xs
all_later P x xs all = λ k d lt. all (suc k) d (omega arith)

all_of : {X : Type 0} (P : X → Type 0) (x : X) (xs : List X) → P x → All P xs → All P (x ∷ xs)
all_of P x xs p all zero d lt = p
all_of P x xs p all (suc k) d lt = all k d (omega arith)

-- if P holds of the text of each key with its value, it holds of what a look-up finds
pub found_value : {V : Type 0} (P : Text → V → Type 0) (test : Text → Bool) (es : List (String Global × V)) (v : V) → All (λ e. P (string_bytes e.0) e.1) es → lookup (λ k. test (string_bytes k)) es ≡ Some v → (k : Text) × (test k ≡ true) × P k v
found_value P test [] v all h = cc
found_value P test (e ∷ es) v all h = go (test (string_bytes e.0)) refl h (all_first (λ x. P (string_bytes x.0) x.1) e es all) (λ k. found_value P test es v (all_later (λ x. P (string_bytes x.0) x.1) e es all) k)
  where
    go : (b : Bool) → test (string_bytes e.0) ≡ b → cond b (Some e.1) (lookup (λ k. test (string_bytes k)) es) ≡ Some v → P (string_bytes e.0) e.1
        → (lookup (λ k. test (string_bytes k)) es ≡ Some v → (k : Text) × (test k ≡ true) × P k v) → (k : Text) × (test k ≡ true) × P k v
    go true p h first more =
        let same : e.1 ≡ v = cc in
        (string_bytes e.0, p, subst (P (string_bytes e.0)) same first)
    go false p h first more = more h

-- if it holds of each pair, and of one that is inserted, then it holds of each pair afterwards
pub inserted_value : {V : Type 0} (P : Text → V → Type 0) (k : String Global) (v : V) → P (string_bytes k) v → (es : List (String Global × V)) → All (λ e. P (string_bytes e.0) e.1) es → All (λ e. P (string_bytes e.0) e.1) (insert_entry string_eq es k v)
inserted_value P k v new [] all = all_of (λ x. P (string_bytes x.0) x.1) (k, v) [] new all
inserted_value P k v new (e ∷ es) all = go (string_eq k e.0) refl (inserted_value P k v new es (all_later (λ x. P (string_bytes x.0) x.1) e es all))
  where
    go : (b : Bool) → string_eq k e.0 ≡ b → All (λ e. P (string_bytes e.0) e.1) (insert_entry string_eq es k v) → All (λ e. P (string_bytes e.0) e.1) (if b then (e.0, v) ∷ es else e ∷ insert_entry string_eq es k v)
    go true p more = all_of (λ x. P (string_bytes x.0) x.1) (e.0, v) es (subst (λ t. P t v) ((bytes_decides (string_bytes k) (string_bytes e.0)).0 p) new) (all_later (λ x. P (string_bytes x.0) x.1) e es all)
    go false p more = all_of (λ x. P (string_bytes x.0) x.1) e (insert_entry string_eq es k v) (all_first (λ x. P (string_bytes x.0) x.1) e es all) more

pub if_ok : {A E : Type 0} (r : Result A E) (P R : A → Type 0) (Q : E → Type 0) → ((x : A) → P x → R x) → MatchResult r P Q → IfOk r R
if_ok (Ok x) P R Q f h = f x h
if_ok (Err e) P R Q f h = tt
