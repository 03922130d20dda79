use Rattle.std.proofs.Common.{◌≡◌, ℕ, ◌+◌, ◌-◌, ◌≤◌, List, Option, length, take, drop, sym, subst, arith, ◌∙◌, take-add, take-append-drop}
use Rattle.std.proofs.lemmas.Grind.{common_steps}
use Rattle.std.specs.Io.KnownBytes.{Appends}
use Rattle.std.proofs.KnownBytes.{Appends-trans, Appends-kept}
use Rattle.byte_devices.proofs.whole.write_all.Goals as goal

pub returns-in_default-clause-beginning : goal.returns-in_default-clause-beginning
returns-in_default-clause-beginning g c =
    (take c.loop-done.done c.args.text.now, drop c.loop-done.done c.args.text.now, sym (take-append-drop c.loop-done.done c.args.text.now), Appends-kept _ _ _ _ c.loop-done.invariant.front c.in_default.ensures.bytes)

-- One more write appends the next part of the text.
grown : (a b d : Option (List ℕ)) (text : List ℕ) (done n rest : ℕ) → n ≤ rest → Appends a b (take done text) → Appends b d (take n (take rest (drop done text))) → Appends a d (take (done + n) text)
grown a b d text done n rest fits p q =
    let e : take n (take rest (drop done text)) ≡ take n (drop done text) = grind (arith, common_steps) in
    rw take-add (Appends-trans a b d _ _ p (subst (Appends b d) e q))

pub loop-done-preserved : goal.loop-done-preserved
loop-done-preserved g c =
    let within : c.in-Ok.count ≤ length c.args.text.now - c.loop-done.done = grind (arith, common_steps, c.in-Ok.ensures.bound) in
    record {
      within = omega arith;
      fresh = c.in-Ok.ensures.mark ∙ c.loop-done.invariant.fresh;
      front = grown _ _ _ c.args.text.now c.loop-done.done c.in-Ok.count _ within c.loop-done.invariant.front c.in-Ok.ensures.bytes;
    }
