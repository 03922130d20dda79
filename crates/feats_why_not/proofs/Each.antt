-- What is said with each widening, about several parts.
use Rattle.std.proofs.Common.{◌≡◌, ℕ, ◌+◌, ◌<◌, List, [], ◌∷◌, ◌++◌, append-nil, get_or, length, map, refl, subst, sym, take}
use Rattle.std.specs.List.{AllZip}
use Rattle.cargo_workspaces.specs.Workspaces.{Text}
use Rattle.plan_names.specs.wider.widenings.Widenings.{widenings}
use Rattle.plan_names.specs.declared.wider.widenings.widening.Widening.{Widening}
use Rattle.feats_why_not.specs.inner.Lists.{joined}
use Rattle.feats_why_not.proofs.Gathered.{AllAreSaid, AreSaidSo, all_said, said_step}

module _ {A : Type 0} (P : A → Widening → Text → Type 0) (head : A → Text) where
  -- the text about an item, after these widenings
  abbrev pub IsSo : List Widening → A → Text → Type 0
  IsSo vs a text = AreSaidSo (P a) (λ v s. s) vs (head a) text

  none_said : (xs : List A) → AllZip (IsSo []) xs (map head xs)
  none_said [] = tt
  none_said (x ∷ xs) = (record { values = []; have = tt; is_all = sym (append-nil (head x)) }, none_said xs)

  -- the loop's beginning
  pub begun : (xs : List A) (texts : List Text) → texts ≡ map head xs → AllZip (IsSo []) xs texts
  begun xs texts is = subst (AllZip (IsSo []) xs) (sym is) (none_said xs)

  next_said : (vs : List Widening) (i : ℕ) (d : Widening) (xs : List A) (texts sections : List Text) → i < length vs → AllZip (IsSo (take i vs)) xs texts → AllZip (λ a s. P a (get_or vs i d) s) xs sections
      → AllZip (IsSo (take (i + 1) vs)) xs (joined texts sections)
  next_said vs i d [] [] [] within so more = tt
  next_said vs i d [] [] (s ∷ ss) within so more = absurd more
  next_said vs i d [] (t ∷ ts) sections within so more = absurd so
  next_said vs i d (x ∷ xs) [] sections within so more = absurd so
  next_said vs i d (x ∷ xs) (t ∷ ts) [] within so more = absurd more
  next_said vs i d (x ∷ xs) (t ∷ ts) (s ∷ ss) within so more =
      (said_step (P x) (λ v s. s) vs i d (head x) t (t ++ s) within so.0 s more.0 refl, next_said vs i d xs ts ss within so.1 more.1)

  -- the loop's step
  pub each_step : (vs : List Widening) (i : ℕ) (d : Widening) (xs : List A) (texts sections new : List Text) → i < length vs → AllZip (IsSo (take i vs)) xs texts → AllZip (λ a s. P a (get_or vs i d) s) xs sections
      → new ≡ joined texts sections → AllZip (IsSo (take (i + 1) vs)) xs new
  each_step vs i d xs texts sections new within so more is = subst (AllZip (IsSo (take (i + 1) vs)) xs) (sym is) (next_said vs i d xs texts sections within so more)

  -- the loop's end
  pub all_done : (vs : List Widening) (xs : List A) (texts : List Text) → vs ≡ widenings → AllZip (IsSo vs) xs texts → AllZip (λ a text. AllAreSaid (P a) (λ v s. s) (head a) text) xs texts
  all_done vs [] [] is so = tt
  all_done vs [] (t ∷ ts) is so = absurd so
  all_done vs (x ∷ xs) [] is so = absurd so
  all_done vs (x ∷ xs) (t ∷ ts) is so = (all_said (P x) (λ v s. s) vs (head x) t is so.0, all_done vs xs ts is so.1)
