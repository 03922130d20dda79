use Rattle.std.proofs.Common.{◌≡◌, ◌∙◌, sym, refl, map}
use Rattle.cargo_workspaces.specs.Views.{package_text}
use Rattle.workspace_documents.specs.LeadViews.{described_view}
use Rattle.feats_plans.specs.numbered_workspaces.Numbers.{numbered}
use Rattle.feats_plans.proofs.Sound.{workspace_sound}
use Rattle.feats_plans.proofs.numbered_workspaces.reading.numbered.Goals as goal

pub new-requires : goal.new-requires
new-requires c =
    let t = described_view c.args.described in
    let packages : map package_text c.in_ok-packages.packages.items ≡ (numbered t).packages = c.in_ok-packages.ensures ∙ rw (c.deref.ensures.value, c.deref-2.ensures.value, c.in_ok-ids.ensures) refl in
    let members : c.in_ok-members.members.items ≡ (numbered t).members = c.in_ok-members.ensures ∙ rw (c.deref-4.ensures.value, c.deref-5.ensures.value, c.in_ok-ids.ensures) refl in
    let default_members : c.in_ok-default_members.default_members.items ≡ (numbered t).default_members = c.in_ok-default_members.ensures ∙ rw (c.deref-6.ensures.value, c.deref-7.ensures.value, c.in_ok-ids.ensures) refl in
    let root : c.number_if_any-root.result ≡ (numbered t).root = c.number_if_any-root.ensures ∙ rw (c.deref-8.ensures.value, c.in_ok-ids.ensures) refl in
    workspace_sound t c.requires _ _ _ _ c.in_ok-check_packages.field-0 packages members default_members root (rw (sym c.deref-3.ensures.value) c.in_ok-check_packages.ensures)
