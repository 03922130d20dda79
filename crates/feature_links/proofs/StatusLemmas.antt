-- The platforms collected one by one.
use Rattle.std.proofs.Common.{◌≡◌, ℕ, List, [], ◌∷◌, ◌++◌, ◌+◌, ◌<◌, length, get_or, Bool, true, false, cond, ◌||◌, not, Option, None, Some, map, take, refl, ap, sym, ◌∙◌, if◌then◌else◌, append_assoc, is_some, subst}
use Rattle.std.specs.Prelude.{filter_map, filter}
use Rattle.std.specs.Borrow.{Bor}
use Rattle.std.specs.List.{list_any}
use Rattle.std.specs.Option.{option_map}
use Rattle.std.specs.Str.{bytes_eq}
use Rattle.std.specs.Cmp.Lexicographic.{bytes_decides}
use Rattle.std.proofs.lemmas.List.{map-append, append-nil, map_more}
use Rattle.std.proofs.lemmas.List.Folds.{list_any-append}
use Rattle.std.proofs.lemmas.List.Elements.{filter_map-append, filter-append}
use Rattle.indexmap.specs.IndexSet.{insert_key}
use Rattle.guppy_packages.specs.Graph.{firsts}
use Rattle.guppy_packages.specs.Platform.{Status, always_status, never_status, impl_status, platform_specs, spec_text, status_by}
use Rattle.guppy_packages.specs.Rows.{Text, Declared}
use Rattle.guppy_packages.specs.declared.platform.PlatformStatusImpl.{PlatformStatusImpl}
use Rattle.guppy_packages.specs.declared.platform.PlatformStatusImpl.TheVariants.{Always, Specs}
use Rattle.guppy_packages.specs.declared.row.DependencyKind.{DependencyKind}
use Rattle.guppy_packages.specs.declared.row.DependencyKind.TheVariants.{Normal, Build, Development}
use Rattle.guppy_packages.specs.declared.platform.Spec.{Spec}
use Rattle.guppy_packages.proofs.Firsts.{firsts-push}
use Rattle.guppy_packages.proofs.Lists.{list_any-map}
use Rattle.feature_links.specs.declared.link.statuses.StatusCollector.{StatusCollector}
use Rattle.feature_labels.specs.declared.link_declarations.LinkDeclarations.{LinkDeclarations}
use Rattle.feature_links.specs.declared.link.held.HeldStatus.{HeldStatus}
use Rattle.feature_links.specs.Links.{is_kind, platforms_of, platforms_status}
use Rattle.feature_links.specs.Values.{StatusFacts, held_status}
use Rattle.feature_links.specs.inner.Collected.{HasPlatforms, statuses_over, texts_in}
use Rattle.feature_links.specs.inner.Shared.{kind_over}

text_along : (a b c : Text) → bytes_eq a b ≡ true → bytes_eq b c ≡ true → bytes_eq a c ≡ true
text_along a b c h k = (bytes_decides a c).1 ((bytes_decides a b).0 h ∙ (bytes_decides b c).0 k)

-- one more text is inserted into a set of texts
pub inserted_text : (keys : List (Bor (List ℕ))) (k : Bor (List ℕ)) (xs : List Text) → map (λ t. t.now) keys ≡ firsts bytes_eq xs
    → map (λ t. t.now) (insert_key (λ (a b : Bor (List ℕ)). bytes_eq a.now b.now) keys k) ≡ firsts bytes_eq (xs ++ k.now ∷ [])
inserted_text keys k xs h = go (list_any (λ (b : Bor (List ℕ)). bytes_eq k.now b.now) keys) refl ∙ sym (firsts-push bytes_eq text_along xs k.now)
  where
    known : list_any (bytes_eq k.now) (firsts bytes_eq xs) ≡ list_any (λ (b : Bor (List ℕ)). bytes_eq k.now b.now) keys
    known = ap (list_any (bytes_eq k.now)) (sym h) ∙ list_any-map (λ (t : Bor (List ℕ)). t.now) (bytes_eq k.now) keys

    go : (b : Bool) → list_any (λ (b : Bor (List ℕ)). bytes_eq k.now b.now) keys ≡ b
        → map (λ t. t.now) (if b then keys else keys ++ k ∷ []) ≡ (if list_any (bytes_eq k.now) (firsts bytes_eq xs) then firsts bytes_eq xs else firsts bytes_eq xs ++ k.now ∷ [])
    go true e = rw (known, e) h
    go false e = rw (known, e) (map-append (λ (t : Bor (List ℕ)). t.now) keys (k ∷ []) ∙ ap (λ z. z ++ k.now ∷ []) h)

-- the texts of one more spec are inserted into a set
pub inserted_spec : (keys new : List (Bor (List ℕ))) (k : Bor (List ℕ)) (before : List Text) (specs : List Spec) (i : ℕ) (s : Spec) → map (λ t. t.now) keys ≡ firsts bytes_eq (before ++ map spec_text (take i specs))
    → new ≡ insert_key (λ (a b : Bor (List ℕ)). bytes_eq a.now b.now) keys k → k.now ≡ spec_text s → i < length specs → s ≡ get_or specs i s
    → map (λ t. t.now) new ≡ firsts bytes_eq (before ++ map spec_text (take (i + 1) specs))
inserted_spec keys new k before specs i s h e f l g =
    ap (map (λ t. t.now)) e
    ∙ inserted_text keys k (before ++ map spec_text (take i specs)) h
    ∙ ap (firsts bytes_eq) (append_assoc before (map spec_text (take i specs)) (k.now ∷ []))
    ∙ ap (λ z. firsts bytes_eq (before ++ (map spec_text (take i specs) ++ z ∷ []))) (f ∙ ap spec_text g)
    ∙ ap (λ z. firsts bytes_eq (before ++ z)) (sym (map_more spec_text specs i s l))

-- whether one of the platforms is all platforms
abbrev all_in : List (Option Text) → Bool
all_in platforms = list_any (λ p. not (is_some p)) platforms

or_true : (b : Bool) → b || true ≡ true
or_true true = refl
or_true false = refl

or_false : (b : Bool) → b || false ≡ b
or_false true = refl
or_false false = refl

-- the status of one platform
pub one_status : (s : PlatformStatusImpl) (p : Option Text) → platform_specs s ≡ option_map (λ (spec : Text). spec ∷ []) p → impl_status s ≡ platforms_status (p ∷ [])
one_status Always None h = refl
one_status Always (Some t) h = cc
one_status (Specs specs) None h = cc
one_status (Specs specs) (Some t) h = ap status_by (same h)
  where
    same : Some (map spec_text specs.items) ≡ Some (t ∷ []) → map spec_text specs.items ≡ t ∷ []
    same e = cc

-- the status of all platforms
pub on_all : (s : PlatformStatusImpl) (p : Option Text) → platform_specs s ≡ option_map (λ (spec : Text). spec ∷ []) p → None ≡ option_map (λ (spec : Text). spec ∷ []) p → impl_status s ≡ always_status
on_all Always p h none = refl
on_all (Specs specs) p h none = cc

pub none_always : (p : Option Text) → None ≡ option_map (λ (spec : Text). spec ∷ []) p → always_status ≡ platforms_status (p ∷ [])
none_always None e = refl
none_always (Some t) e = cc

-- a declaration for all platforms was added
pub always_added : (c : StatusCollector) (always : HeldStatus) (p : Option Text) (before : List (Option Text)) → None ≡ option_map (λ (spec : Text). spec ∷ []) p → held_status always ≡ always_status → HasPlatforms c before
    → HasPlatforms (record { always = always; specs = c.specs }) (before ++ p ∷ [])
always_added c always None before e is h = record {
  always = is ∙ ap (λ b. if b then always_status else never_status) (sym (list_any-append (λ p. not (is_some p)) before (None ∷ []) ∙ or_true (all_in before)));
  specs = h.specs ∙ ap (firsts bytes_eq) (sym (filter_map-append (λ p. p) before (None ∷ []) ∙ append-nil (filter_map (λ p. p) before)));
}
always_added c always (Some t) before e is h = cc

-- one spec was added
pub spec_added : (c d : StatusCollector) (texts : List Text) (p : Option Text) (before : List (Option Text)) → Some texts ≡ option_map (λ (spec : Text). spec ∷ []) p → held_status d.always ≡ held_status c.always
    → ((xs : List Text) → texts_in c.specs ≡ firsts bytes_eq xs → texts_in d.specs ≡ firsts bytes_eq (xs ++ texts))
    → HasPlatforms c before → HasPlatforms d (before ++ p ∷ [])
spec_added c d texts None before e same more h = cc
spec_added c d texts (Some t) before e same more h = record {
  always = same ∙ h.always ∙ ap (λ b. if b then always_status else never_status) (sym (list_any-append (λ p. not (is_some p)) before (Some t ∷ []) ∙ or_false (all_in before)));
  specs = more (filter_map (λ p. p) before) h.specs ∙ ap (λ z. firsts bytes_eq (filter_map (λ p. p) before ++ z)) one ∙ ap (firsts bytes_eq) (sym (filter_map-append (λ p. p) before (Some t ∷ [])));
}
  where
    one : texts ≡ t ∷ []
    one = cc

module _ (c : StatusCollector) (platforms : List (Option Text)) (h : HasPlatforms c platforms) where
  -- some declaration applies on all platforms
  pub joined_always : held_status c.always ≡ always_status → held_status c.always ≡ platforms_status platforms
  joined_always is = go (all_in platforms) refl
    where
      go : (b : Bool) → all_in platforms ≡ b → held_status c.always ≡ (if all_in platforms then always_status else status_by (firsts bytes_eq (filter_map (λ p. p) platforms)))
      go true e = is ∙ ap (λ z. if z then always_status else status_by (firsts bytes_eq (filter_map (λ p. p) platforms))) (sym e)
      go false e = let no : always_status ≡ never_status = sym is ∙ h.always ∙ ap (λ z. if z then always_status else never_status) e in cc

  -- otherwise the status is that of the specs
  pub joined_specs : (s : HeldStatus) (texts : List Text) → (held_status c.always ≡ always_status → ⊥) → texts ≡ texts_in c.specs → held_status s ≡ status_by texts → held_status s ≡ platforms_status platforms
  joined_specs s texts apart are is = is ∙ ap status_by (are ∙ h.specs) ∙ go (all_in platforms) refl
    where
      go : (b : Bool) → all_in platforms ≡ b → status_by (firsts bytes_eq (filter_map (λ p. p) platforms)) ≡ (if all_in platforms then always_status else status_by (firsts bytes_eq (filter_map (λ p. p) platforms)))
      go true e = absurd (apart (h.always ∙ ap (λ z. if z then always_status else never_status) e))
      go false e = ap (λ z. if z then always_status else status_by (firsts bytes_eq (filter_map (λ p. p) platforms))) (sym e)

three : (which : LinkDeclarations) {a b c x y z : Status} → a ≡ x → b ≡ y → c ≡ z
    → ◌≡◌ {A = StatusFacts} (record { declarations = which; normal = a; build = b; dev = c }) (record { declarations = which; normal = x; build = y; dev = z })
three which e f g = cc

-- the status of each kind over one declaration
pub one_kind : (kind only : DependencyKind) (d : Declared) (s : Status) → d.kind ≡ only → s ≡ platforms_status (d.platform ∷ []) → (if is_kind kind only then s else never_status) ≡ platforms_status (platforms_of kind (d ∷ []))
one_kind kind only d s e h = go (is_kind kind only) refl
  where
    go : (b : Bool) → is_kind kind only ≡ b → (if b then s else never_status) ≡ platforms_status (platforms_of kind (d ∷ []))
    go true t = h ∙ ap (λ b. platforms_status (map (λ (x : Declared). x.platform) (cond b (d ∷ []) []))) (sym (ap (is_kind kind) e ∙ t))
    go false t = ap (λ b. platforms_status (map (λ (x : Declared). x.platform) (cond b (d ∷ []) []))) (sym (ap (is_kind kind) e ∙ t))

pub one_over : (which : LinkDeclarations) (d : Declared) (s : Status) → s ≡ platforms_status (d.platform ∷ []) → kind_over which d.kind s ≡ statuses_over which (d ∷ [])
one_over which d s h = three which (one_kind Normal d.kind d s refl h) (one_kind Build d.kind d s refl h) (one_kind Development d.kind d s refl h)

-- a declaration of another kind, and one of the kind
pub kind_kept : (kind : DependencyKind) (d : Declared) (c : StatusCollector) (before : List Declared) → is_kind kind d.kind ≡ false → HasPlatforms c (platforms_of kind before) → HasPlatforms c (platforms_of kind (before ++ d ∷ []))
kind_kept kind d c before e h =
    let one : filter (λ x. is_kind kind x.kind) (d ∷ []) ≡ [] = ap (λ b. cond b (d ∷ []) []) e in
    subst (HasPlatforms c) (ap (map (λ x. x.platform)) (sym (filter-append (λ x. is_kind kind x.kind) before (d ∷ []) ∙ ap (λ z. filter (λ x. is_kind kind x.kind) before ++ z) one ∙ append-nil (filter (λ x. is_kind kind x.kind) before)))) h

pub kind_grown : (kind : DependencyKind) (d : Declared) (c : StatusCollector) (before : List Declared) → is_kind kind d.kind ≡ true → HasPlatforms c (platforms_of kind before ++ d.platform ∷ []) → HasPlatforms c (platforms_of kind (before ++ d ∷ []))
kind_grown kind d c before e h =
    let one : filter (λ x. is_kind kind x.kind) (d ∷ []) ≡ d ∷ [] = ap (λ b. cond b (d ∷ []) []) e in
    subst (HasPlatforms c) (sym (ap (map (λ x. x.platform)) (filter-append (λ x. is_kind kind x.kind) before (d ∷ []) ∙ ap (λ z. filter (λ x. is_kind kind x.kind) before ++ z) one) ∙ map-append (λ x. x.platform) (filter (λ x. is_kind kind x.kind) before) (d ∷ []))) h
