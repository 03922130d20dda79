-- Every workspace that is read without a fault satisfies its rules.
use Rattle.std.proofs.Common.{◌≡◌, subst, []}
use Rattle.std.specs.Prelude.{Result, Ok, Err, IfOk, codes, option_and_then}
use Rattle.std.specs.List.{AllByRecursion}
use Rattle.std.specs.List.Sorted.{IsStrictlySortedBy}
use Rattle.std.specs.Map.{keys_of}
use Rattle.json.specs.Json.{Json}
use Rattle.json.specs.Find.{get, as_array}
use Rattle.cargo_json.specs.declared.fault.Place.TheVariants as place
use Rattle.cargo_json.specs.declared.fault.DocumentFault.{DocumentFault}
use Rattle.cargo_json.specs.Faults.{Gives}
use Rattle.cargo_json.specs.Fields.{wanted}
use Rattle.workspace_documents.specs.Lists.{ById, id_cmp, each_by_id}
use Rattle.workspace_documents.specs.Packages.{PackageText, package_with_id, packages_at, packages_in}
use Rattle.workspace_documents.specs.Nodes.{members_in, resolved_in}
use Rattle.workspace_documents.specs.Leads.{LinksText, DescribedText, root_in, all_leads, links_in, described_in}
use Rattle.workspace_documents.specs.LeadViews.{described_view}
use Rattle.workspace_documents.specs.declared.leads.Described.{Described}
use Rattle.workspace_documents.specs.Rules.{HasSortedFeatures, IsDescribed}
use Rattle.workspace_documents.proofs.Sorted.{ok_same, both_ok, by_id_sorted, by_id_all, own_id, own_features}
use Rattle.workspace_documents.proofs.Known.{members_known, root_known, resolved_known, all_known}

none_sorted : IsStrictlySortedBy id_cmp (keys_of {X = PackageText} [])
unfolding IsStrictlySortedBy
none_sorted = tt

abbrev ArePackages : ById PackageText → Type 0
ArePackages ps = IsStrictlySortedBy id_cmp (keys_of ps) × AllByRecursion (λ e. e.1.id ≡ e.0) ps × AllByRecursion (λ e. HasSortedFeatures e.1) ps

packages_sound : (d : Json) (ps : ById PackageText) → packages_in d ≡ Ok ps → ArePackages ps
unfolding packages_in packages_at
packages_sound d ps h =
    let objects = both_ok (wanted place.Document (codes "packages") (option_and_then as_array (get (codes "packages") d))) (each_by_id package_with_id place.Package 0 []) ps h in (
      by_id_sorted package_with_id place.Package objects.0 0 [] ps objects.2 none_sorted,
      by_id_all package_with_id place.Package (λ e. e.1.id ≡ e.0) own_id objects.0 0 [] ps objects.2 tt,
      by_id_all package_with_id place.Package (λ e. HasSortedFeatures e.1) own_features objects.0 0 [] ps objects.2 tt,
    )

links_sound : (d : Json) (ps : ById PackageText) (links : LinksText) → ArePackages ps → links_in ps d ≡ Ok links → IsDescribed (record { packages = ps; links = links })
unfolding links_in
links_sound d ps links sound h =
    let resolved = both_ok (resolved_in ps d) _ links h in
    let default_members = both_ok (members_in ps (codes "workspace_default_members") d) _ links resolved.2 in
    let root = both_ok (root_in ps d) _ links default_members.2 in
    let leads = both_ok (all_leads resolved.0.nodes ps) _ links root.2 in
    let known = resolved_known ps sound.1 d resolved.0 resolved.1 in
    subst (λ (l : LinksText). IsDescribed (record { packages = ps; links = l })) (ok_same _ links leads.2) (record {
      ids = sound.0;
      own_ids = sound.1;
      features = sound.2;
      members = known.0;
      default_members = members_known ps (codes "workspace_default_members") d default_members.0 default_members.1;
      root = root_known ps d root.0 root.1;
      leads = all_known ps resolved.0.nodes known.1 ps leads.0 leads.1;
    })

pub described_sound : (d : Json) (t : DescribedText) → described_in d ≡ Ok t → IsDescribed t
unfolding described_in
described_sound d t h =
    let packages = both_ok (packages_in d) _ t h in
    let links = both_ok (links_in packages.0 d) _ t packages.2 in
    subst IsDescribed (ok_same _ t links.2) (links_sound d packages.0 links.0 (packages_sound d packages.0 packages.1) links.1)

-- the same of a call's result
pub sound_result : (d : Json) (r : Result Described DocumentFault) → Gives described_view r (described_in d) → IfOk r (λ t. IsDescribed (described_view t))
sound_result d (Ok t) h = described_sound d (described_view t) h
sound_result d (Err e) h = tt
