-- Entries and their rows.
use Rattle.std.proofs.Common.{◌≡◌, ℕ, suc, ◌+◌, ◌*◌, ◌<◌, ◌≤◌, subst, List, [], ◌∷◌, ◌++◌, Bool, Option, None, Some, length, map, drop, get_or, refl, ap, sym, ◌∙◌, arith, add-one, drop-cons, append_assoc}
use Rattle.std.proofs.Math.Nat.{suc-mul}
use Rattle.std.specs.List.{filter_map, cons_option, list_all}
use Rattle.std.specs.Fmt.{decimal}
use Rattle.std.specs.Option.{option_map}
use Rattle.std.proofs.lemmas.List.{map-append, append-nil}
use Rattle.guppy_packages.specs.Rows.{RowText, a_package}
use Rattle.cargo_workspaces.specs.Workspaces.{DeclarationText, FeatureText, is_within}
use Rattle.plan_rows.proofs.Lists.{both, is_within_more}
use Rattle.plan_rows.specs.Commands.{command_of}
use Rattle.plan_rows.specs.Steps.{command_list, dependency_as}
use Rattle.plan_rows.specs.Tables.{Dependency, Entry, dependency_row, each_from, entry_rows, feature_row, rows_from}
use Rattle.plan_rows.specs.inner.Leads.{dependencies_at}
use Rattle.std.specs.Prelude.{false, true, slice_get, option_and_then}
use Rattle.std.proofs.lemmas.Option.{slice_get-map}

-- the dependencies of declarations, each with its own lead
pub dependencies_at-map : (plain : Bool) (lead : DeclarationText → Option ℕ) (ds : List DeclarationText) → dependencies_at plain ds (map lead ds) ≡ filter_map (λ d. option_map (dependency_as plain d) (lead d)) ds
dependencies_at-map plain lead [] = refl
dependencies_at-map plain lead (d ∷ ds) = go (lead d) (dependencies_at-map plain lead ds)
  where
    more : List Dependency
    more = filter_map (λ d. option_map (dependency_as plain d) (lead d)) ds

    go : (o : Option ℕ) → dependencies_at plain ds (map lead ds) ≡ filter_map (λ d. option_map (dependency_as plain d) (lead d)) ds → dependencies_at plain (d ∷ ds) (o ∷ map lead ds) ≡ cons_option (option_map (dependency_as plain d) o) (filter_map (λ d. option_map (dependency_as plain d) (lead d)) ds)
    go None h = h
    go (Some to) h = ap (λ z. dependency_as plain d to ∷ z) h

-- the rows of an entry, pushed one part after the other
pub entry_pushed : (k : ℕ) (features command : List FeatureText) (deps : List Dependency) (r0 r1 r2 r3 r4 : List RowText)
    → r1 ≡ r0 ++ a_package (decimal k) false ∷ [] → r2 ≡ r1 ++ map feature_row features → r3 ≡ r2 ++ map feature_row command → r4 ≡ r3 ++ map dependency_row deps
    → r4 ≡ r0 ++ entry_rows k (record { features = features ++ command; dependencies = deps })
entry_pushed k features command deps r0 r1 r2 r3 r4 e1 e2 e3 e4 =
    let fs = map feature_row features in
    let cs = map feature_row command in
    let ds = map dependency_row deps in
    let first = a_package (decimal k) false in
    let joined : map feature_row (features ++ command) ≡ fs ++ cs = map-append feature_row features command in
    e4 ∙ ap (λ z. z ++ ds) (e3 ∙ ap (λ z. z ++ cs) (e2 ∙ ap (λ z. z ++ fs) e1))
    ∙ ap (λ z. z ++ ds) (append_assoc (r0 ++ first ∷ []) fs cs)
    ∙ append_assoc (r0 ++ first ∷ []) (fs ++ cs) ds
    ∙ append_assoc r0 (first ∷ []) ((fs ++ cs) ++ ds)
    ∙ ap (λ z. r0 ++ first ∷ (z ++ ds)) (sym joined)

-- one more entry pushed, of those from place `i` on
pub entries_step : {X Y : Type 0} (view : X → Y) (f : ℕ → Y → Entry) (base i : ℕ) (xs : List X) (d : X) (all r0 r1 : List RowText) → i < length xs
    → all ≡ r0 ++ rows_from (base + i) (each_from f i (map view (drop i xs))) → r1 ≡ r0 ++ entry_rows (base + i) (f i (view (get_or xs i d)))
    → all ≡ r1 ++ rows_from (base + (i + 1)) (each_from f (i + 1) (map view (drop (i + 1) xs)))
entries_step view f base i xs d all r0 r1 within is pushed =
    let here = get_or xs i d in
    let rest = drop (i + 1) xs in
    let more = rows_from (base + i + 1) (each_from f (i + 1) (map view rest)) in
    let cut : drop i xs ≡ here ∷ rest = rw (add-one, drop-cons xs i d within) refl in
    let next : base + i + 1 ≡ base + (i + 1) = omega arith in
    is ∙ ap (λ z. r0 ++ rows_from (base + i) (each_from f i (map view z))) cut
    ∙ sym (append_assoc r0 (entry_rows (base + i) (f i (view here))) more)
    ∙ ap (λ z. z ++ more) (sym pushed)
    ∙ ap (λ z. r1 ++ rows_from z (each_from f (i + 1) (map view rest))) next

pub length-each_from : {X Y : Type 0} (f : ℕ → X → Y) (k : ℕ) (xs : List X) → length (each_from f k xs) ≡ length xs
length-each_from f k [] = refl
length-each_from f k (x ∷ xs) = ap (λ n. suc n) (length-each_from f (k + 1) xs)

-- the rows of entries, then of others
pub rows_from-append : (k : ℕ) (es fs : List Entry) → rows_from k (es ++ fs) ≡ rows_from k es ++ rows_from (k + length es) fs
rows_from-append k [] fs = ap (λ n. rows_from n fs) (omega arith)
rows_from-append k (e ∷ es) fs =
    let next : k + 1 + length es ≡ k + length (e ∷ es) = omega arith in
    ap (λ z. entry_rows k e ++ z) (rows_from-append (k + 1) es fs ∙ ap (λ n. rows_from (k + 1) es ++ rows_from n fs) next)
    ∙ sym (append_assoc (entry_rows k e) (rows_from (k + 1) es) (rows_from (k + length (e ∷ es)) fs))

-- a package past the end has no command feature
pub no_command : {X : Type 0} (view : X → FeatureText) (commands : List (Option X)) (ix : ℕ) (rows : List RowText) → slice_get commands ix ≡ None
    → rows ≡ rows ++ map feature_row (command_list (command_of (map (option_map view) commands) ix))
no_command view commands ix rows none =
    let past : slice_get (map (option_map view) commands) ix ≡ None = slice_get-map (option_map view) commands ix ∙ ap (option_map (option_map view)) none in
    sym (ap (λ o. rows ++ map feature_row (command_list (option_and_then (λ c. c) o))) past ∙ append-nil rows)

-- the rows of entries pushed, then those of others
pub entries_then : (n : ℕ) (es fs : List Entry) (r0 r1 r2 : List RowText) → length es ≡ n → r1 ≡ r0 ++ rows_from 0 es → r2 ≡ r1 ++ rows_from n fs → r2 ≡ r0 ++ rows_from 0 (es ++ fs)
entries_then n es fs r0 r1 r2 long first next =
    let zero_plus : length es ≡ 0 + length es = omega arith in
    next ∙ ap (λ z. z ++ rows_from n fs) first ∙ append_assoc r0 (rows_from 0 es) (rows_from n fs)
    ∙ ap (λ m. r0 ++ (rows_from 0 es ++ rows_from m fs)) (sym long ∙ zero_plus)
    ∙ ap (λ z. r0 ++ z) (sym (rows_from-append 0 es fs))

-- the rows of an entry without features, pushed one part after the other
pub plain_entry_pushed : (k : ℕ) (deps : List Dependency) (r0 r1 r2 : List RowText) → r1 ≡ r0 ++ a_package (decimal k) false ∷ [] → r2 ≡ r1 ++ map dependency_row deps
    → r2 ≡ r0 ++ entry_rows k (record { features = []; dependencies = deps })
plain_entry_pushed k deps r0 r1 r2 e1 e2 = e2 ∙ ap (λ z. z ++ map dependency_row deps) e1 ∙ append_assoc r0 (a_package (decimal k) false ∷ []) (map dependency_row deps)

-- the rows of one more place pushed, of those from place `i` on
pub places_step : {X : Type 0} (entries : ℕ → List X → List Entry) (place : ℕ → X → List Entry) (size : ℕ)
    → ((b : ℕ) (x : X) (xs : List X) → entries b (x ∷ xs) ≡ place b x ++ entries (b + size) xs) → ((b : ℕ) (x : X) → length (place b x) ≡ size)
    → (ts : List X) (i next : ℕ) (d : X) (all r0 r1 : List RowText) → i < length ts → all ≡ r0 ++ rows_from next (entries next (drop i ts)) → r1 ≡ r0 ++ rows_from next (place next (get_or ts i d))
    → all ≡ r1 ++ rows_from (next + size) (entries (next + size) (drop (i + 1) ts))
places_step entries place size step long ts i next d all r0 r1 within is pushed =
    let here = get_or ts i d in
    let rest = drop (i + 1) ts in
    let more = entries (next + size) rest in
    let cut : drop i ts ≡ here ∷ rest = rw (add-one, drop-cons ts i d within) refl in
    is ∙ ap (λ z. r0 ++ rows_from next (entries next z)) cut
    ∙ ap (λ z. r0 ++ rows_from next z) (step next here rest)
    ∙ ap (λ z. r0 ++ z) (rows_from-append next (place next here) more)
    ∙ sym (append_assoc r0 (rows_from next (place next here)) (rows_from (next + length (place next here)) more))
    ∙ ap (λ z. z ++ rows_from (next + length (place next here)) more) (sym pushed)
    ∙ ap (λ n. r1 ++ rows_from (next + n) more) (long next here)

-- declarations that lead below a bound lead below a larger one
pub declarations_within : (a b : ℕ) (ds : List DeclarationText) → a ≤ b → list_all (λ d. is_within a d.leads_to) ds ≡ true → list_all (λ d. is_within b d.leads_to) ds ≡ true
declarations_within a b [] few h = refl
declarations_within a b (d ∷ ds) few h =
    let parts = both (is_within a d.leads_to) (list_all (λ e. is_within a e.leads_to) ds) h in
    rw (is_within_more a b d.leads_to few parts.0, declarations_within a b ds few parts.1) refl

-- there is room for the places after the next one
pub places_room : (next n few many room : ℕ) → many ≡ suc few → next + many * n ≤ room → next + n + few * n ≤ room
places_room next n few many room e h =
    let P : ℕ → Type 0 = λ z. next + z * n ≤ room in
    let Q : ℕ → Type 0 = λ z. next + z ≤ room in
    go (few * n) (subst Q (suc-mul few n) (subst P e h))
  where
    go : (m : ℕ) → next + (m + n) ≤ room → next + n + m ≤ room
    go m h = omega arith
