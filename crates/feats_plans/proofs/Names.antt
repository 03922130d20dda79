-- The names by which declarations lead to one package.
use Rattle.std.proofs.Common.{◌≡◌, ◌∙◌, sym, ap, refl, ℕ, List, [], ◌∷◌, ◌++◌, map, Bool, true, false, not, ◌&&◌, cond, arith}
use Rattle.std.specs.Prelude.{Option, Some, None, find, option_map, option_and_then, if◌then◌else◌}
use Rattle.std.specs.List.{list_all, list_any, AllByRecursion}
use Rattle.std.specs.Option.{option_or, unwrap_or}
use Rattle.std.specs.Str.{bytes_eq}
use Rattle.std.proofs.lemmas.Bool.{true≢false}
use Rattle.std.proofs.lemmas.Bool.Decides.{Decides-eqb}
use Rattle.std.proofs.lemmas.Slice.Eq.{bytes_eq-Decides}
use Rattle.cargo_workspaces.specs.Workspaces.{Text, DeclarationText, both_lead_to, is_other_name}
use Rattle.workspace_documents.specs.Lists.{first_some}
use Rattle.feats_plans.specs.numbered_workspaces.Faults.{first_alike, if_two, other_names, two_names_of}

none_first : {Y : Type 0} (o : Option Y) (os : List (Option Y)) → first_some (o ∷ os) ≡ None → (o ≡ None) × (first_some os ≡ None)
none_first None os h = (refl, h)
none_first (Some y) os h = cc

-- each of what has no first value has none
pub none_each : {X Y : Type 0} (f : X → Option Y) (xs : List X) → first_some (map f xs) ≡ None → AllByRecursion (λ x. f x ≡ None) xs
none_each f [] h = tt
none_each f (x ∷ xs) h = let parts = none_first (f x) (map f xs) h in (parts.0, none_each f xs parts.1)

none_passes : (b : Bool) (x : DeclarationText) (o : Option DeclarationText) → cond b (Some x) o ≡ None → (b ≡ false) × (o ≡ None)
none_passes true x o h = cc
none_passes false x o h = (refl, h)

none_found : (test : DeclarationText → Bool) (xs : List DeclarationText) → find test xs ≡ None → AllByRecursion (λ x. test x ≡ false) xs
none_found test [] h = tt
none_found test (x ∷ xs) h = let parts = none_passes (test x) x (find test xs) h in (parts.0, none_found test xs parts.1)

one_name : (b : Bool) (names : Text × Text) → ◌≡◌ {A = Option (Text × Text)} (if b then None else Some names) None → b ≡ true
one_name true names h = refl
one_name false names h = cc

same_lead : (p q : Option ℕ) → both_lead_to p q ≡ true → p ≡ q
same_lead None q h = cc
same_lead (Some a) None h = cc
same_lead (Some a) (Some b) h = ap Some ((Decides-eqb a b).0 h)

abbrev differ : Text → DeclarationText → Option (Text × Text)
differ name e = if bytes_eq e.name name then None else Some (e.name, name)

module _ (ds : List DeclarationText) where
  abbrev first : Option ℕ → Option DeclarationText
  first p = find (λ e. both_lead_to p e.leads_to) ds

  abbrev names : Option ℕ → Text → Option (Text × Text)
  names p name = option_and_then (differ name) (first p)

  agreed : (found : Option DeclarationText) (a : DeclarationText) (name : Text) → found ≡ Some a → option_and_then (differ name) found ≡ None → a.name ≡ name
  agreed found a name is h = (bytes_eq-Decides a.name name).0 (one_name (bytes_eq a.name name) (a.name, name) (sym (ap (option_and_then (differ name)) is) ∙ h))

  not_other : (p q : Option ℕ) (m n : Text) (found : Option DeclarationText) (b : Bool) → first p ≡ found → both_lead_to p q ≡ b → names p m ≡ None → names q n ≡ None → (found ≡ None → both_lead_to p q ≡ false) → (b && not (bytes_eq n m)) ≡ false
  not_other p q m n found false is lead h k none = refl
  not_other p q m n None true is lead h k none = absurd (true≢false (sym lead ∙ none refl))
  not_other p q m n (Some a) true is lead h k none =
      let one : a.name ≡ m = agreed (first p) a m is h in
      let two : a.name ≡ n = agreed (first q) a n (ap first (sym (same_lead p q lead)) ∙ is) k in
      ap not ((bytes_eq-Decides n m).1 (sym two ∙ one))

  abbrev Agrees : DeclarationText → Type 0
  Agrees d = other_names ds d ≡ None

  none_other : (d : DeclarationText) → Agrees d → (es : List DeclarationText) → AllByRecursion Agrees es → (first d.leads_to ≡ None → AllByRecursion (λ e. both_lead_to d.leads_to e.leads_to ≡ false) es) → list_any (is_other_name d) es ≡ false
  none_other d good [] all none = refl
  none_other d good (e ∷ es) all none =
      let this : is_other_name d e ≡ false = not_other d.leads_to e.leads_to d.name e.name (first d.leads_to) (both_lead_to d.leads_to e.leads_to) refl refl good all.0 (λ h. (none h).0) in
      rw (this, none_other d good es all.1 (λ h. (none h).1)) refl

  agree : (es : List DeclarationText) → AllByRecursion Agrees es → AllByRecursion Agrees ds → list_all (λ d. not (list_any (is_other_name d) ds)) es ≡ true
  agree [] some all = refl
  agree (d ∷ es) some all = rw (none_other d some.0 ds all (λ h. none_found (λ e. both_lead_to d.leads_to e.leads_to) ds h), agree es some.1 all) refl

  -- without two names, no declaration has another name than one to the same package
  pub one_name_each : two_names_of ds ≡ None → list_all (λ d. not (list_any (is_other_name d) ds)) ds ≡ true
  one_name_each h = let all = none_each (other_names ds) ds h in agree ds all all

-- the search along the declarations
find-append : (test : DeclarationText → Bool) (xs ys : List DeclarationText) → find test (xs ++ ys) ≡ option_or (find test xs) (find test ys)
find-append test [] ys = refl
find-append test (x ∷ xs) ys = by (test x) (find-append test xs ys)
  where
    by : (b : Bool) → find test (xs ++ ys) ≡ option_or (find test xs) (find test ys) → cond b (Some x) (find test (xs ++ ys)) ≡ option_or (cond b (Some x) (find test xs)) (find test ys)
    by true more = refl
    by false more = more

nowhere : (xs : List DeclarationText) → find (λ e. both_lead_to None e.leads_to) xs ≡ None
nowhere [] = refl
nowhere (x ∷ xs) = nowhere xs

abbrev name : DeclarationText → Text
name d = d.name

-- the name of the first declaration among `xs` that leads to package q
abbrev pub name_at : List DeclarationText → ℕ → Option Text
name_at xs q = option_map name (find (λ e. both_lead_to (Some q) e.leads_to) xs)

-- `done` are the declarations before `d`, and `rest` those after it
module _ (ds done rest : List DeclarationText) (d : DeclarationText) (split : ds ≡ done ++ d ∷ rest) where
  pub leads_nowhere : d.leads_to ≡ None → other_names ds d ≡ None
  leads_nowhere h = ap (option_and_then (λ e. if_two e d)) (ap (λ p. find (λ e. both_lead_to p e.leads_to) ds) h ∙ nowhere ds)

  itself : (n : ℕ) → d.leads_to ≡ Some n → find (λ e. both_lead_to (Some n) e.leads_to) (d ∷ rest) ≡ Some d
  itself n h =
      let same : both_lead_to (Some n) d.leads_to ≡ true = ap (both_lead_to (Some n)) h ∙ (Decides-eqb n n).1 refl in
      rw same refl

  alike_by : (n : ℕ) (found : Option DeclarationText) → d.leads_to ≡ Some n → find (λ e. both_lead_to (Some n) e.leads_to) done ≡ found → option_map name (first_alike ds d) ≡ Some (unwrap_or (option_map name found) d.name)
  alike_by n found h e =
      let joined : find (λ x. both_lead_to (Some n) x.leads_to) (done ++ d ∷ rest) ≡ option_or found (Some d) = find-append (λ x. both_lead_to (Some n) x.leads_to) done (d ∷ rest) ∙ ap (λ (o : Option DeclarationText). option_or o (find (λ x. both_lead_to (Some n) x.leads_to) (d ∷ rest))) e ∙ ap (option_or found) (itself n h) in
      ap (λ p. option_map name (find (λ x. both_lead_to p x.leads_to) ds)) h
      ∙ ap (λ xs. option_map name (find (λ x. both_lead_to (Some n) x.leads_to) xs)) split
      ∙ ap (option_map name) joined
      ∙ chosen found
    where
      chosen : (o : Option DeclarationText) → option_map name (option_or o (Some d)) ≡ Some (unwrap_or (option_map name o) d.name)
      chosen None = refl
      chosen (Some a) = refl

  compared : (o : Option DeclarationText) (first : Text) → option_map name o ≡ Some first → option_and_then (λ e. if_two e d) o ≡ (if bytes_eq first d.name then None else Some (first, d.name))
  compared None first h = cc
  compared (Some a) first h = let same : a.name ≡ first = cc in ap (λ (t : Text). if bytes_eq t d.name then None else Some (t, d.name)) same

  -- the names of `d` and of the first declaration to its package, which is found in a table of the earlier ones
  pub names_from : (n : ℕ) (first : Text) → d.leads_to ≡ Some n → first ≡ unwrap_or (name_at done n) d.name → other_names ds d ≡ (if bytes_eq first d.name then None else Some (first, d.name))
  names_from n first h e = compared (first_alike ds d) first (alike_by n (find (λ e. both_lead_to (Some n) e.leads_to) done) h refl ∙ ap Some (sym e))

  by_lead : (first : Text) (p : Option ℕ) → d.leads_to ≡ p → first ≡ unwrap_or (option_and_then (name_at done) p) d.name → other_names ds d ≡ (if bytes_eq first d.name then None else Some (first, d.name))
  by_lead first None h e = leads_nowhere h ∙ sym (alike (bytes_eq first d.name) (first, d.name) ((bytes_eq-Decides first d.name).1 e))
    where
      alike : (b : Bool) (both : Text × Text) → b ≡ true → ◌≡◌ {A = Option (Text × Text)} (if b then None else Some both) None
      alike true both e = refl
      alike false both e = cc
  by_lead first (Some n) h e = names_from n first h e

  -- the names of `d` and of the first declaration to its package, whose name is in a table of those before it
  pub names_by : (first : Text) → first ≡ unwrap_or (option_and_then (name_at done) d.leads_to) d.name → other_names ds d ≡ (if bytes_eq first d.name then None else Some (first, d.name))
  names_by first e = by_lead first d.leads_to refl e

turned : (q : ℕ) (p : Option ℕ) → both_lead_to (Some q) p ≡ both_lead_to p (Some q)
turned q None = refl
turned q (Some n) = grind arith

added : (o : Option DeclarationText) (d : DeclarationText) (b c : Bool) → b ≡ c → option_map name (option_or o (cond b (Some d) None)) ≡ option_or (option_map name o) (if c then Some d.name else None)
added None d true true e = refl
added None d false false e = refl
added None d true false e = cc
added None d false true e = cc
added (Some a) d b c e = refl

-- the table with one more declaration
pub table_more : (done : List DeclarationText) (d : DeclarationText) (q : ℕ) → name_at (done ++ d ∷ []) q ≡ option_or (name_at done q) (if both_lead_to d.leads_to (Some q) then Some d.name else None)
table_more done d q = ap (option_map name) (find-append (λ e. both_lead_to (Some q) e.leads_to) done (d ∷ [])) ∙ added (find (λ e. both_lead_to (Some q) e.leads_to) done) d (both_lead_to (Some q) d.leads_to) (both_lead_to d.leads_to (Some q)) (turned q d.leads_to)

pub or_none : (o : Option Text) → option_or o None ≡ o
or_none None = refl
or_none (Some t) = refl

pub same_lookup : (f g : ℕ → Option Text) → ((n : ℕ) → f n ≡ g n) → (p : Option ℕ) → option_and_then f p ≡ option_and_then g p
same_lookup f g h None = refl
same_lookup f g h (Some n) = h n

-- by what `!=` says of two texts
pub chosen_one : (b : Bool) (both : Text × Text) → not b ≡ false → ◌≡◌ {A = Option (Text × Text)} (if b then None else Some both) None
chosen_one true both h = refl
chosen_one false both h = cc

pub chosen_two : (b : Bool) (both : Text × Text) → not b ≡ true → ◌≡◌ {A = Option (Text × Text)} (if b then None else Some both) (Some both)
chosen_two true both h = cc
chosen_two false both h = refl
