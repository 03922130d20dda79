-- Cuts of texts.
use Rattle.std.proofs.Common.{◌≡◌, ◌≢◌, ℕ, zero, suc, ◌+◌, ◌-◌, ◌<◌, List, [], ◌∷◌, ◌++◌, Bool, true, false, cond, ◌||◌, not, length, take, drop, get_or, refl, ap, sym, ◌∙◌, append_assoc, arith, eqb, lit<}
use Rattle.std.specs.Prelude.{nat_eq, codes, ◌&&◌}
use Rattle.std.specs.List.{after_first, before_first, list_any, position_or_len, ends_with, starts_with}
use Rattle.std.specs.Cmp.Lexicographic.{bytes_decides}
use Rattle.std.proofs.lemmas.Bool.{eqb-true, eq-eqb}
use Rattle.std.proofs.lemmas.List.{length-append, take-append-drop}
use Rattle.std.proofs.Math.Seq.{drop-append_seam, take-append_seam}
use Rattle.cargo_workspaces.specs.Workspaces.{PackageText, Text}
use Rattle.plan_words.specs.FeatureWords.{without_mark}
use Rattle.plan_words.specs.PackageWords.{begins_numbers, fits_fragment, fits_rest, fits_url, fits_version, is_hash, is_last_part, is_place, without}
use Rattle.plan_words.proofs.PatternFits.{same_tests}

never : false ≡ true → ⊥
never e = cc

pub false_of : (b : Bool) → (b ≡ true → ⊥) → b ≡ false
false_of true h = absurd (h refl)
false_of false h = refl

-- no element passes if the first that does has no place
pub list_any-absent : {X : Type 0} (p : X → Bool) (xs : List X) → position_or_len p xs ≡ length xs → list_any p xs ≡ false
list_any-absent p [] h = refl
list_any-absent p (x ∷ xs) h = go (p x) h (λ k. list_any-absent p xs k)
  where
    go : (b : Bool) → cond (not b) (1 + position_or_len p xs) 0 ≡ length (x ∷ xs) → (position_or_len p xs ≡ length xs → list_any p xs ≡ false) → b || list_any p xs ≡ false
    go true h more = absurd (omega arith)
    go false h more = more (omega arith)

or_right : (a b : Bool) → b ≡ true → (a || b) ≡ true
or_right true b h = refl
or_right false b h = h

pub list_any_at : {X : Type 0} (p : X → Bool) (xs : List X) (k : ℕ) (d : X) → k < length xs → p (get_or xs k d) ≡ true → list_any p xs ≡ true
list_any_at p [] k d within h = absurd (omega arith)
list_any_at p (x ∷ xs) zero d within h = rw h refl
list_any_at p (x ∷ xs) (suc k) d within h = or_right (p x) (list_any p xs) (list_any_at p xs k d (omega arith) h)

pub list_any_never : {X : Type 0} (p : X → Bool) (xs : List X) → ((k : ℕ) (d : X) → k < length xs → p (get_or xs k d) ≡ false) → list_any p xs ≡ false
list_any_never p [] h = refl
list_any_never p (x ∷ xs) h =
    let first : p x ≡ false = h 0 x (omega arith) in
    let rest : list_any p xs ≡ false = list_any_never p xs (λ k d within. h (suc k) d (omega arith)) in
    rw (first, rest) refl

-- what is read within a list doesn't depend on the default
pub same_read : {X : Type 0} (xs : List X) (k : ℕ) (d e : X) → k < length xs → get_or xs k e ≡ get_or xs k d
same_read [] k d e within = absurd (omega arith)
same_read (x ∷ xs) zero d e within = refl
same_read (x ∷ xs) (suc k) d e within = same_read xs k d e (omega arith)

-- what `contains` says of a character
pub contains_is : (c : ℕ) (bs : Text) (r : Bool) → (r ≡ true → (k : ℕ) × (k < length bs) × (get_or bs k 0 ≡ c)) × ((k : ℕ) → k < length bs → get_or bs k 0 ≡ c → r ≡ true) → r ≡ list_any (λ b. eqb b c) bs
contains_is c bs true h = let found = h.0 refl in sym (list_any_at (λ b. eqb b c) bs found.0 0 found.1 (eq-eqb _ c found.2))
contains_is c bs false h = sym (list_any_never (λ b. eqb b c) bs (λ k d within. false_of _ (λ e. never (h.1 k within (same_read bs k d 0 within ∙ eqb-true _ c e)))))

head_same : (a b : ℕ) → a ∷ [] ≡ b ∷ [] → a ≡ b
head_same a b e = cc

-- a text that begins with a byte
pub begins_byte : (c : ℕ) (bs : Text) → 0 < c → eqb (get_or bs 0 0) c ≡ starts_with nat_eq bs (c ∷ [])
begins_byte c [] h = false_of _ (λ e. absurd (omega (arith, eqb-true 0 c e)))
begins_byte c (b ∷ bs) h = go (eqb b c) refl
  where
    go : (t : Bool) → eqb b c ≡ t → t ≡ starts_with nat_eq (b ∷ bs) (c ∷ [])
    go true e = sym ((bytes_decides (c ∷ []) (b ∷ [])).1 (ap (λ x. x ∷ []) (sym (eqb-true b c e))))
    go false e = sym (false_of _ (λ h. never (sym e ∙ eq-eqb b c (sym (head_same c b ((bytes_decides (c ∷ []) (b ∷ [])).0 h))))))

-- a version that begins with a word, and the rest of it
pub begins_with : (word version rest : Text) (n : ℕ) (r : Bool) → n ≡ length word → version ≡ word ++ drop n version → rest ≡ drop n version → r ≡ eqb (get_or rest 0 0) 46 → r ≡ begins_numbers word version
begins_with word version rest n r long is at dot =
    let more = drop n version in
    let front : take (length word) version ≡ word = ap (take (length word)) is ∙ take-append_seam word more in
    let begins : starts_with nat_eq version word ≡ true = (bytes_decides word (take (length word) version)).1 (sym front) in
    let back : rest ≡ drop (length word) version = at ∙ ap (λ k. drop k version) long in
    rw (begins) (dot ∙ begins_byte 46 rest (lit< tt) ∙ ap (λ t. starts_with nat_eq t (codes ".")) back)

-- and one that doesn't
pub begins_otherwise : (word version : Text) → false ≡ starts_with nat_eq version word → false ≡ begins_numbers word version
begins_otherwise word version h = ap (λ b. b && starts_with nat_eq (drop (length word) version) (codes ".")) h

-- a text without one mark at its end, and one with it
pub unmarked : (name : Text) → ((front : List ℕ) → name ≢ front ++ (63 ∷ [])) → name ≡ without_mark name
unmarked name h = rw (plain) refl
  where
    plain : ends_with nat_eq name (codes "?") ≡ false
    plain = false_of _ (λ e. h (take (length name - 1) name) (sym (ap (λ l. take (length name - 1) name ++ l) ((bytes_decides (63 ∷ []) (drop (length name - 1) name)).0 e) ∙ take-append-drop (length name - 1) name)))

-- what follows a name without a mark
pub unmarked_rest : (rest version : Text) → ((more : List ℕ) → rest ≢ 64 ∷ more) → ((more : List ℕ) → rest ≢ 58 ∷ more) → eqb (length rest) 0 ≡ fits_rest rest version
unmarked_rest [] version h k = refl
unmarked_rest (c ∷ rest) version h k = false_of _ (λ e. absurd (omega (arith, eqb-true (suc (length rest)) 0 e))) ∙ sym (ap (λ b. b && fits_version rest version) (plain (eqb c 64) refl (eqb c 58) refl))
  where
    plain : (a : Bool) → eqb c 64 ≡ a → (b : Bool) → eqb c 58 ≡ b → (eqb c 64 || eqb c 58) ≡ false
    plain true e b i = absurd (h rest (ap (λ x. x ∷ rest) (eqb-true c 64 e)))
    plain false e true i = absurd (k rest (ap (λ x. x ∷ rest) (eqb-true c 58 i)))
    plain false e false i = rw (e, i) refl

-- a text that begins with a name, and one that doesn't
pub named_rest : (word name version rest : Text) (n : ℕ) → n ≡ length name → word ≡ name ++ drop n word → rest ≡ drop n word
    → fits_rest rest version ≡ (starts_with nat_eq word name && fits_rest (drop (length name) word) version)
named_rest word name version rest n long is at =
    let front : take (length name) word ≡ name = ap (take (length name)) is ∙ take-append_seam name (drop n word) in
    let begins : starts_with nat_eq word name ≡ true = (bytes_decides name (take (length name) word)).1 (sym front) in
    rw (begins) (ap (λ t. fits_rest t version) (at ∙ ap (λ k. drop k word) long))

-- a text without its beginning
pub without_front : (front text rest : Text) (n : ℕ) → n ≡ length front → text ≡ front ++ drop n text → rest ≡ drop n text → rest ≡ without front text
without_front front text rest n long is at =
    let same : take (length front) text ≡ front = ap (take (length front)) is ∙ take-append_seam front (drop n text) in
    let begins : starts_with nat_eq text front ≡ true = (bytes_decides front (take (length front) text)).1 (sym same) in
    rw (begins) (at ∙ ap (λ k. drop k text) long)

pub without_other : (front text : Text) → false ≡ starts_with nat_eq text front → text ≡ without front text
without_other front text h = ap (λ b. cond b (drop (length front) text) text) h

-- a text that ends with a slash and a name
before_name : Text → Text → ℕ
before_name url name = length url - suc (length name)

ends_split : (url name : Text) → ends_with nat_eq url (47 ∷ name) ≡ true → url ≡ (take (before_name url name) url ++ 47 ∷ []) ++ name
unfolding before_name
ends_split url name e =
    let m : ℕ = length url - suc (length name) in
    sym (take-append-drop m url) ∙ ap (λ l. take m url ++ l) (sym ((bytes_decides (47 ∷ name) (drop m url)).0 e)) ∙ sym (append_assoc (take m url) (47 ∷ []) name)

same_front : (front other name : Text) → front ++ name ≡ other ++ name → front ≡ other
same_front front other name e =
    let long : length front ≡ length other = omega (arith, ap (λ (t : Text). length t) e, length-append front name, length-append other name) in
    sym (take-append_seam front name) ∙ ap (take (length front)) e ∙ ap (λ k. take k (other ++ name)) long ∙ take-append_seam other name

pub slash_before : (url name front : Text) (r : Bool) → url ≡ front ++ name → (r ≡ true → front ≡ take (length front - 1) front ++ (47 ∷ [])) × ((f : List ℕ) → front ≡ f ++ (47 ∷ []) → r ≡ true)
    → r ≡ ends_with nat_eq url (47 ∷ name)
slash_before url name front r is h = same_tests r (ends_with nat_eq url (47 ∷ name)) ahead back
  where
    ahead : r ≡ true → ends_with nat_eq url (47 ∷ name) ≡ true
    ahead e =
        let f : Text = take (length front - 1) front in
        let whole : url ≡ f ++ 47 ∷ name = is ∙ ap (λ z. z ++ name) (h.0 e) ∙ append_assoc f (47 ∷ []) name in
        let place : length url - suc (length name) ≡ length f = omega (arith, ap (λ (t : Text). length t) whole, length-append f (47 ∷ name)) in
        (bytes_decides (47 ∷ name) (drop (length url - suc (length name)) url)).1 (sym (ap (λ k. drop k url) place ∙ ap (drop (length f)) whole ∙ drop-append_seam f (47 ∷ name)))

    back : ends_with nat_eq url (47 ∷ name) ≡ true → r ≡ true
    back e = h.1 (take (before_name url name) url) (same_front front (take (before_name url name) url ++ 47 ∷ []) name (sym is ∙ ends_split url name e))

pub no_slash_before : (url name : Text) → ((front : List ℕ) → url ≢ front ++ name) → false ≡ ends_with nat_eq url (47 ∷ name)
no_slash_before url name h = sym (false_of _ (λ e. h (take (before_name url name) url ++ 47 ∷ []) (ends_split url name e)))

-- a word that is a source or a URL alone
pub plain_url : (word : Text) (p : PackageText) (r place : Bool) → r ≡ is_last_part p → place ≡ true → place ≡ is_place word p → list_any is_hash word ≡ false → r ≡ fits_url word p
plain_url word p r place e t h none =
    e ∙ ap (λ b. b && is_last_part p) (sym t ∙ h)
    ∙ ap (λ b. cond b (is_place (before_first is_hash word) p && fits_fragment (after_first is_hash word) p) (is_place word p && is_last_part p)) (sym none)
