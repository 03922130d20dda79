-- A URL that names a package has a `#` or a `/`.
use Rattle.std.proofs.Common.{◌≡◌, ℕ, zero, suc, ◌-◌, [], ◌∷◌, Bool, true, false, cond, ◌||◌, ◌&&◌, length, take, drop, refl, ap, sym, ◌∙◌}
use Rattle.std.specs.Prelude.{nat_eq, codes}
use Rattle.std.specs.List.{after_first, before_first, list_any, position_or_len, starts_with}
use Rattle.std.specs.Str.{bytes_eq}
use Rattle.std.specs.Cmp.Lexicographic.{bytes_decides}
use Rattle.cargo_workspaces.specs.Workspaces.{PackageText, Text}
use Rattle.plan_words.specs.PackageWords.{fits_fragment, fits_name, fits_url, is_hash, is_last_part, is_named, is_place, is_question, source_of, url_of, without}
use Rattle.plan_words.specs.inner.Urls.{is_slash, may_be_url}
use Rattle.plan_words.proofs.PatternFits.{false_of, never, or_right}

either : (a b : Bool) → (a || b) ≡ true → (b ≡ true → a ≡ true) → a ≡ true
either true b h k = refl
either false b h k = k h

both : (a b : Bool) → (a && b) ≡ true → (a ≡ true) × (b ≡ true)
both true b h = (refl, h)
both false b h = absurd (never h)

-- what a part of a list has, the list has
any_drop : (p : ℕ → Bool) (k : ℕ) (xs : Text) → list_any p (drop k xs) ≡ true → list_any p xs ≡ true
any_drop p zero xs h = h
any_drop p (suc k) [] h = h
any_drop p (suc k) (x ∷ xs) h = or_right (p x) (list_any p xs) (any_drop p k xs h)

any_first : (a b c : Bool) → (a || b) ≡ true → (b ≡ true → c ≡ true) → (a || c) ≡ true
any_first true b c h k = refl
any_first false b c h k = k h

any_take : (p : ℕ → Bool) (k : ℕ) (xs : Text) → list_any p (take k xs) ≡ true → list_any p xs ≡ true
any_take p zero xs h = absurd (never h)
any_take p (suc k) [] h = h
any_take p (suc k) (x ∷ xs) h = any_first (p x) (list_any p (take k xs)) (list_any p xs) h (any_take p k xs)

any_without : (p : ℕ → Bool) (front text : Text) → list_any p (without front text) ≡ true → list_any p text ≡ true
any_without p front text h = go (starts_with nat_eq text front) h
  where
    go : (b : Bool) → list_any p (cond b (drop (length front) text) text) ≡ true → list_any p text ≡ true
    go true h = any_drop p (length front) text h
    go false h = h

-- a slash of the URL is one of the source
source_slash : (p : PackageText) → list_any is_slash (url_of p) ≡ true → list_any is_slash (source_of p) ≡ true
source_slash p h =
    let registry : Text = without (codes "registry+") (source_of p) in
    let git : Text = without (codes "git+") registry in
    let path : Text = without (codes "path+") git in
    any_without is_slash (codes "registry+") (source_of p)
    (any_without is_slash (codes "git+") registry
    (any_without is_slash (codes "path+") git
    (any_take is_slash (position_or_len is_question path) path h)))

last_part_slash : (p : PackageText) → is_last_part p ≡ true → list_any is_slash (url_of p) ≡ true
last_part_slash p e =
    let m : ℕ = length (url_of p) - suc (length p.name) in
    any_drop is_slash m (url_of p) (ap (list_any is_slash) (sym ((bytes_decides (47 ∷ p.name) (drop m (url_of p))).0 e)))

place_slash : (word : Text) (p : PackageText) → is_place word p ≡ true → list_any is_slash (url_of p) ≡ true → list_any is_slash word ≡ true
place_slash word p h slash = go (bytes_eq word (source_of p)) (bytes_decides word (source_of p)).0 h
  where
    go : (b : Bool) → (b ≡ true → word ≡ source_of p) → (b || bytes_eq word (url_of p)) ≡ true → list_any is_slash word ≡ true
    go true same h = ap (list_any is_slash) (same refl) ∙ source_slash p slash
    go false same h = ap (list_any is_slash) ((bytes_decides word (url_of p)).0 h) ∙ slash

url_mark : (word : Text) (p : PackageText) → fits_url word p ≡ true → may_be_url word ≡ true
url_mark word p h = go (list_any is_hash word) h
  where
    go : (b : Bool) → cond b (is_place (before_first is_hash word) p && fits_fragment (after_first is_hash word) p) (is_place word p && is_last_part p) ≡ true → (b || list_any is_slash word) ≡ true
    go true h = refl
    go false h =
        let parts = both (is_place word p) (is_last_part p) h in
        place_slash word p parts.0 (last_part_slash p parts.1)

-- a word without marks names a package by its name alone
pub named_by_name : (word : Text) (p : PackageText) → false ≡ may_be_url word → fits_name word p ≡ is_named word p
named_by_name word p h = go (fits_name word p) (fits_url word p) (false_of (fits_url word p) (λ e. never (h ∙ url_mark word p e)))
  where
    go : (a b : Bool) → b ≡ false → a ≡ (a || b)
    go true b e = refl
    go false b e = sym e
