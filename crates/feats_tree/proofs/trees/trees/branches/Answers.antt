use Rattle.std.proofs.Common.{◌≡◌, ◌∙◌, ◌-◌, ap, ap₂, subst, take, append-nil, [], ℕ, List, Option}
use Rattle.std.specs.List.{list_any}
use Rattle.feats_tree.specs.trees.Branches.{AreBranches}
use Rattle.feats_tree.specs.trees.inner.Nodes.{is_hiding_at}
use Rattle.feats_tree.specs.declared.trees.nodes.Node.{Node}
use Rattle.feats_tree.specs.declared.trees.trees.Branch.{Branch}
use Rattle.feats_tree.proofs.CutLemmas.{walk_cut}
use Rattle.feats_tree.proofs.ReachLemmas.{have_all}
use Rattle.feats_tree.proofs.WalkLemmas.{begun, ended, fewer, stepped}
use Rattle.feats_tree.proofs.trees.trees.branches.Goals as goal
use Rattle.feats_tree.proofs.trees.trees.branches.Goals.{After-drop-nodes-2}

pub loop-next-init : goal.loop-next-init
loop-next-init c =
    begun c.args.links.now c.args.roots.now c.args.limit c.in_ok-nodes.nodes.items c.new-shown.result.items c.new-waiting.result.items _
    c.in_ok-nodes.ensures.ends c.in_ok-nodes.ensures.shown c.new-shown.ensures.items c.new-waiting.ensures.items c.in_ok-push_all.ensures

pub loop-next-smaller : goal.loop-next-smaller
loop-next-smaller c = fewer c.args.limit c.loop-next.nodes.items c.show.new.nodes.items c.loop-next.waiting.items c.pop.new.self.items c.show.new.waiting.items c.in-Some.next c.in-Some.ensures.items c.in_ok-branch.ensures.after

pub loop-next-preserved : goal.loop-next-preserved
loop-next-preserved c =
    stepped c.args.links.now c.args.roots.now c.args.limit c.loop-next.nodes.items c.show.new.nodes.items c.loop-next.shown.items c.push.new.self.items c.loop-next.waiting.items c.pop.new.self.items
    c.in-Some.next c.in_ok-branch.branch _ c.loop-next.invariant c.in-Some.ensures.items c.in_ok-branch.ensures.branch c.in_ok-branch.ensures.after c.in_ok-push.ensures.items

nothing_waits : (c : After-drop-nodes-2) → c.loop-next.waiting.items ≡ []
nothing_waits c = c.in_default.ensures.items ∙ append-nil c.pop.new.self.items ∙ c.in_default.ensures.rest ∙ ap (λ n. take (n - 1) c.loop-next.waiting.items) c.in_default.ensures.cases.0

are_branches : (c : After-drop-nodes-2) → AreBranches c.args.links.now c.args.roots.now c.args.limit c.loop-next.shown.items
are_branches c = ended c.args.links.now c.args.roots.now c.args.limit c.loop-next.nodes.items c.loop-next.shown.items c.loop-next.waiting.items c.loop-next.invariant (nothing_waits c)

pub returns-clause-branches : goal.returns-clause-branches
returns-clause-branches c = are_branches c

pub returns-clause-all : goal.returns-clause-all
returns-clause-all c = λ no_limit.
    have_all c.args.links.now c.args.roots.now c.loop-next.shown.items
    (subst (λ (z : Option ℕ). AreBranches c.args.links.now c.args.roots.now z c.loop-next.shown.items) no_limit (are_branches c))

pub returns-clause-cut : goal.returns-clause-cut
returns-clause-cut c =
    c.is_any_hiding-is_cut.ensures ∙ ap₂ (λ (nodes : List Node) (branches : List Branch). list_any (λ b. is_hiding_at nodes b.node) branches) c.deref.ensures.value c.deref-2.ensures.value
    ∙ walk_cut c.args.links.now c.args.roots.now c.args.limit c.loop-next.nodes.items c.loop-next.shown.items _ c.loop-next.invariant
