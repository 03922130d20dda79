use Rattle.std.proofs.Common.{◌∙◌, sym, ap, Bor}
use Rattle.std.specs.declared.alloc.Global.{Global}
use Rattle.std.specs.Prelude.{codes}
use Rattle.json.specs.Find.{later_or, get_member}
use Rattle.json.specs.Value.{members_view}
use Rattle.json.specs.declared.value.Value.{Value}
use Rattle.cargo_json.specs.Faults.{Text}
use Rattle.cargo_json.proofs.Split.{taken_here, taken_before, kept, left_out}
use Rattle.cargo_json.proofs.parts.split.Goals as goal

pub fields-preserved-then-lists_packages : goal.fields-preserved-then-lists_packages
fields-preserved-then-lists_packages c =
    let here = sym c.lists_packages.ensures ∙ c.if-lists_packages.true in
    let m : Bor Text × Value Global = (c.in-Some.name, c.in-Some.value) in
    record {
      taken = ap (λ o. later_or o (get_member (codes "packages") (members_view c.pop.new.self.items))) c.last-packages.ensures ∙ taken_here _ _ m c.in-Some.ensures.items (codes "packages") _ _ here c.fields.invariant.taken;
      others = λ name other. left_out _ _ m c.in-Some.ensures.items (codes "packages") name c.fields.rest.items here other ∙ c.fields.invariant.others name other;
    }

pub fields-preserved : goal.fields-preserved
fields-preserved c =
    let away = sym c.lists_packages.ensures ∙ c.if-lists_packages.false in
    let m : Bor Text × Value Global = (c.in-Some.name, c.in-Some.value) in
    record {
      taken = taken_before _ _ m c.in-Some.ensures.items (codes "packages") _ _ away c.fields.invariant.taken;
      others = λ name other. ap (λ ms. get_member name (members_view ms)) (kept _ _ m c.in-Some.ensures.items _ _ c.in_ok-push.ensures.items) ∙ c.fields.invariant.others name other;
    }
