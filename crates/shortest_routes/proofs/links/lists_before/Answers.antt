use Rattle.std.proofs.Common.{◌∙◌, ◌<◌, subst, sym, get_or, Contains}
use Rattle.std.proofs.lemmas.List.Elements.{Contains-get_or}
use Rattle.shortest_routes.proofs.LinkLemmas.{before_more}
use Rattle.shortest_routes.proofs.ListLemmas.{all_taken, from_taken, none_in}
use Rattle.shortest_routes.proofs.links.lists_before.Goals as goal

pub loop-link-init : goal.loop-link-init
loop-link-init c = record {
  size = c.in_ok-lists.ensures.length;
  are = λ from to. (λ h. absurd (none_in from (subst (λ z. Contains z from) (c.in_ok-lists.ensures.empty to) h)), λ h. absurd (none_in (from, to) h));
}

pub add_link-requires : goal.add_link-requires
add_link-requires c =
    let link = get_or c.args.links.now c.loop-link.link-index (0, 0) in
    subst (λ n. link.1 < n) (sym c.loop-link.invariant.size) (c.requires link.0 link.1 (Contains-get_or c.args.links.now c.loop-link.link-index (0, 0) c.loop-link-test.true)).1

pub loop-link-preserved : goal.loop-link-preserved
loop-link-preserved c = record {
  size = c.in_ok-add_link.ensures.length ∙ c.loop-link.invariant.size;
  are = before_more c.args.links.now c.loop-link.link-index c.loop-link.lists.items c.add_link.new.lists.items c.loop-link-test.true c.loop-link.invariant.are c.in_ok-add_link.ensures.added;
}

pub returns : goal.returns
returns c = λ from to. (
  λ h. from_taken c.args.links.now c.loop-link.link-index (from, to) c.loop-link-test.false ((c.loop-link.invariant.are from to).0 h),
  λ h. (c.loop-link.invariant.are from to).1 (all_taken c.args.links.now c.loop-link.link-index (from, to) c.loop-link-test.false h),
)
