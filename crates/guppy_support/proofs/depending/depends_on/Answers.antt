use Rattle.std.proofs.Common.{◌≡◌, ◌∙◌, [], ℕ, Bool, List, true, false, length, replicate, refl, ap, sym, subst, arith, rules, vec_len}
use Rattle.std.specs.Prelude.{◌==◌}
use Rattle.std.proofs.lemmas.Bool.{false≢true, eqb-true, eq-eqb}
use Rattle.std.proofs.lemmas.List.{length-replicate, nil_from_length}
use Rattle.guppy_support.specs.declared.reading.Reading.TheVariants.{Forward}
use Rattle.guppy_support.specs.Reaches.{Along, FollowedStep}
use Rattle.guppy_support.specs.inner.Search.{IsSearch}
use Rattle.guppy_support.proofs.Followed.{along_path, path_along}
use Rattle.guppy_support.proofs.SearchLemmas.{found_one, search_starts, search_adds, search_goes, path_found, waiting_within}
use Rattle.guppy_support.proofs.depending.depends_on.Goals as goal

pub loop-waiting-init : goal.loop-waiting-init
loop-waiting-init c =
    let by = FollowedStep Forward c.args.digraph.now.edges (λ _. true) in
    let n : ℕ = c.node_count.result in
    let a : ℕ = c.args.a in
    let size = ap length c.in_ok-found.ensures ∙ length-replicate n false ∙ c.node_count.ensures in
    let finds = found_one c.in_ok-found.found c.find.new.found c.new-waiting.result.items c.find.new.waiting.items a (omega (arith, size, c.requires.a)) c.find.ensures.found c.in_ok-find.ensures.waiting in
    let starts =
    subst (λ (f : List Bool). IsSearch by (λ v. v == a) f c.new-waiting.result.items) (sym c.in_ok-found.ensures)
    (subst (IsSearch by (λ v. v == a) (replicate n false)) (sym c.new-waiting.ensures.items) (search_starts (λ v. v == a) n)) in
    record {
      size = finds.size ∙ size;
      start = finds.finds a refl;
      known = search_adds (λ v. v == a) a c.in_ok-found.found c.find.new.found c.new-waiting.result.items c.find.new.waiting.items (eq-eqb a a refl) starts finds;
    }

pub follow-requires-clause-node : goal.follow-requires-clause-node
follow-requires-clause-node c =
    let a : ℕ = c.args.a in
    let known = subst (IsSearch (FollowedStep Forward c.args.digraph.now.edges (λ _. true)) (λ v. v == a) c.loop-waiting.found) c.in-Some.ensures.items c.loop-waiting.invariant.known in
    omega (arith, waiting_within (λ v. v == a) c.in-Some.node c.loop-waiting.found c.pop.new.self.items known, c.loop-waiting.invariant.size)

pub loop-waiting-preserved : goal.loop-waiting-preserved
loop-waiting-preserved c =
    let a : ℕ = c.args.a in
    let known = subst (IsSearch (FollowedStep Forward c.args.digraph.now.edges (λ _. true)) (λ v. v == a) c.loop-waiting.found) c.in-Some.ensures.items c.loop-waiting.invariant.known in
    record {
      size = c.in_ok-follow.ensures.size ∙ c.loop-waiting.invariant.size;
      start = c.in_ok-follow.ensures.kept a c.loop-waiting.invariant.start;
      known = search_goes (λ v. v == a) c.in-Some.node c.loop-waiting.found c.follow.new.found c.pop.new.self.items c.follow.new.waiting.items known c.in_ok-follow.ensures;
    }

pub returns-in_default : goal.returns-in_default
returns-in_default c =
    let a : ℕ = c.args.a in
    let items = c.loop-waiting.waiting.items in
    let long : vec_len c.loop-waiting.waiting ≡ length items = search rules in
    let none : items ≡ [] = nil_from_length items (omega (arith, long, c.in_default.ensures.cases.0)) in
    let known = subst (IsSearch (FollowedStep Forward c.args.digraph.now.edges (λ _. true)) (λ v. v == a) c.loop-waiting.found) none c.loop-waiting.invariant.known in
    let missing = sym c.contains.ensures ∙ c.loop-waiting-test.true in
    (λ t. absurd (false≢true t), λ path. absurd (false≢true (sym missing ∙ path_found (λ v. v == a) c.loop-waiting.found known (path_along path) c.loop-waiting.invariant.start)))

pub returns : goal.returns
returns c =
    let by = FollowedStep Forward c.args.digraph.now.edges (λ _. true) in
    let r = c.loop-waiting.invariant.known.reached c.args.b (sym c.contains.ensures ∙ c.loop-waiting-test.false) in
    (λ _. along_path (subst (λ (u : ℕ). Along by u c.args.b) (eqb-true r.0 c.args.a r.1) r.2), λ _. refl)
