-- A described workspace without a fault among its packages satisfies the rules of a workspace.
use Rattle.std.proofs.Common.{◌≡◌, ◌∙◌, sym, ap, refl, subst, ℕ, List, [], ◌∷◌, map, length, Bool, true, false, ◌&&◌}
use Rattle.std.specs.Prelude.{Option, Some, None, Ok, option_map, zip, if◌then◌else◌, ⊤}
use Rattle.std.specs.List.{list_all, list_any, AllByRecursion, AllZip}
use Rattle.std.specs.List.Sorted.{IsStrictlySortedBy}
use Rattle.std.specs.Map.{keys_of}
use Rattle.std.specs.Option.{option_or, option_map_or}
use Rattle.std.specs.Str.{bytes_eq}
use Rattle.std.proofs.lemmas.List.{length-map}
use Rattle.cargo_workspaces.specs.Workspaces.{Text, FeatureText, PackageText, text_cmp, may_name_feature, is_within, IsPackage, IsWorkspace}
use Rattle.workspace_documents.specs.Lists.{ById, first_some}
use Rattle.workspace_documents.specs.Packages as read
use Rattle.workspace_documents.specs.Leads.{DescribedText}
use Rattle.workspace_documents.specs.Rules.{HasSortedFeatures, LeadsOf, IsDescribed}
use Rattle.feats_plans.specs.numbered_workspaces.Numbers.{numbered_declaration, numbered_package, numbered_packages, numbered}
use Rattle.feats_plans.specs.numbered_workspaces.Faults.{NoWorkspace, bad_name, two_names_of, fault_of, unless}
use Rattle.feats_plans.proofs.Places.{all_within, lead_within}
use Rattle.feats_plans.proofs.Names.{none_each, one_name_each}

none_both : (a b : Option NoWorkspace) → option_or a b ≡ None → (a ≡ None) × (b ≡ None)
none_both None b h = (refl, h)
none_both (Some x) b h = cc

none_mapped : {X : Type 0} (f : X → NoWorkspace) (o : Option X) → option_map f o ≡ None → o ≡ None
none_mapped f None h = refl
none_mapped f (Some x) h = cc

may : (b : Bool) (name : Text) → ◌≡◌ {A = Option Text} (if b then None else Some name) None → b ≡ true
may true name h = refl
may false name h = cc

by_may : (b : Bool) (name : Text) → b ≡ true → ◌≡◌ {A = Option Text} (if b then None else Some name) None
by_may true name h = refl
by_may false name h = cc

-- a name that may be a feature's
pub may_be : (f : FeatureText) → may_name_feature f.name ≡ true → bad_name f ≡ None
may_be f h = by_may (may_name_feature f.name) f.name h

good_names : (fs : List FeatureText) → AllByRecursion (λ f. bad_name f ≡ None) fs → list_all (λ f. may_name_feature f.name) fs ≡ true
good_names [] all = refl
good_names (f ∷ fs) all = rw (may (may_name_feature f.name) f.name all.0, good_names fs all.1) refl

true_and : (a b : Bool) → (a && b) ≡ true → (a ≡ true) × (b ≡ true)
true_and true b h = (refl, h)
true_and false b h = cc

abbrev known : List Text → Option Text → Bool
known ids lead = option_map_or (λ id. list_any (bytes_eq id) ids) lead true

leads_within : (count : ℕ) (ids : List Text) (ds : List read.DeclarationText) (leads : List (Option Text)) → count ≡ length ids → list_all (known ids) leads ≡ true → list_all (λ d. is_within count d.leads_to) (map (numbered_declaration ids) (zip ds leads)) ≡ true
leads_within count ids [] leads long h = refl
leads_within count ids (d ∷ ds) [] long h = refl
leads_within count ids (d ∷ ds) (lead ∷ leads) long h =
    let parts = true_and (known ids lead) (list_all (known ids) leads) h in
    rw (lead_within count ids lead long parts.0, leads_within count ids ds leads long parts.1) refl

module _ (all : ById read.PackageText) where
  abbrev ids : List Text
  ids = keys_of all

  ids_kept : (ps : ById read.PackageText) (ls : ById (List (Option Text))) → AllByRecursion (λ e. e.1.id ≡ e.0) ps → AllZip (LeadsOf all) ps ls → map (λ p. p.id) (numbered_packages ids ps ls) ≡ keys_of ps
  ids_kept [] [] own leads = refl
  ids_kept [] (l ∷ ls) own leads = absurd leads
  ids_kept (e ∷ es) [] own leads = absurd leads
  ids_kept (e ∷ es) (l ∷ ls) own leads = rw (own.0, ids_kept es ls own.1 leads.1) refl

  sound_package : (count : ℕ) (e : Text × read.PackageText) (l : Text × List (Option Text)) → count ≡ length ids → HasSortedFeatures e.1 → LeadsOf all e l → fault_of (numbered_package ids e.1 l.1) ≡ None → IsPackage count (numbered_package ids e.1 l.1)
  sound_package count e l long sorted leads none =
      let p : PackageText = numbered_package ids e.1 l.1 in
      let parts = none_both _ _ none in (
        sorted,
        good_names e.1.features (none_each bad_name e.1.features (none_mapped _ (first_some (map bad_name e.1.features)) parts.0)),
        leads_within count ids e.1.declarations l.1 long leads.2,
        one_name_each (map (numbered_declaration ids) (zip e.1.declarations l.1)) (none_mapped _ (two_names_of (map (numbered_declaration ids) (zip e.1.declarations l.1))) parts.1),
      )

  sound_packages : (count : ℕ) (ps : ById read.PackageText) (ls : ById (List (Option Text))) → count ≡ length ids → AllByRecursion (λ e. HasSortedFeatures e.1) ps → AllZip (LeadsOf all) ps ls → AllByRecursion (λ p. fault_of p ≡ None) (numbered_packages ids ps ls) → AllByRecursion (IsPackage count) (numbered_packages ids ps ls)
  sound_packages count [] [] long sorted leads none = tt
  sound_packages count [] (l ∷ ls) long sorted leads none = absurd leads
  sound_packages count (e ∷ es) [] long sorted leads none = absurd leads
  sound_packages count (e ∷ es) (l ∷ ls) long sorted leads none = (sound_package count e l long sorted.0 leads.0 none.0, sound_packages count es ls long sorted.1 leads.1 none.1)

pub numbered_sound : (t : DescribedText) → IsDescribed t → first_some (map fault_of (numbered t).packages) ≡ None → IsWorkspace (numbered t)
numbered_sound t rules none =
    let ids : List Text = keys_of t.packages in
    let packages : List PackageText = (numbered t).packages in
    let kept : map (λ (p : PackageText). p.id) packages ≡ ids = ids_kept t.packages t.packages t.links.leads rules.own_ids rules.leads in
    let long : length packages ≡ length ids = sym (length-map packages (λ (p : PackageText). p.id)) ∙ ap length kept in (
      subst (IsStrictlySortedBy text_cmp) (sym kept) rules.ids,
      sound_packages t.packages (length packages) t.packages t.links.leads long rules.features rules.leads (none_each fault_of packages none),
      all_within (length packages) ids t.links.members long rules.members,
      all_within (length packages) ids t.links.default_members long rules.default_members,
      lead_within (length packages) ids t.links.root long rules.root,
    )

unless_none : (o : Option NoWorkspace) (unit : ⊤) → unless o ≡ Ok unit → o ≡ None
unless_none None unit h = refl
unless_none (Some fault) unit h = cc

-- the same of the parts of a workspace, each of which is the numbered one
pub workspace_sound : (t : DescribedText) → IsDescribed t → (packages : List PackageText) (members default_members : List ℕ) (root : Option ℕ) (unit : ⊤) → packages ≡ (numbered t).packages → members ≡ (numbered t).members → default_members ≡ (numbered t).default_members → root ≡ (numbered t).root → unless (first_some (map fault_of packages)) ≡ Ok unit → IsWorkspace (record { packages = packages; members = members; default_members = default_members; root = root })
workspace_sound t rules packages members default_members root unit p m d r passed =
    let none : first_some (map fault_of (numbered t).packages) ≡ None = ap (λ (ps : List PackageText). first_some (map fault_of ps)) (sym p) ∙ unless_none (first_some (map fault_of packages)) unit passed in
    let same : numbered t ≡ record { packages = packages; members = members; default_members = default_members; root = root } = rw (p, m, d, r) refl in
    subst IsWorkspace same (numbered_sound t rules none)
