use Rattle.std.proofs.Common.{◌≡◌, ◌+◌, arith}
use Rattle.std.specs.BTreeMap.{get_by}
use Rattle.std.specs.Option.{unwrap_or}
use Rattle.std.proofs.lemmas.Grind.{common_steps}
use Rattle.std.proofs.lemmas.Map.Text.{btree_map_updates_str}
use Rattle.cargo_workspaces.specs.Workspaces.{text_cmp}
use Rattle.feats_list.proofs.CountLemmas.{counts_more}
use Rattle.feats_list.proofs.platforms.counts.count.Goals as goal

pub returns-in_ok-_old-in-Some : goal.returns-in_ok-_old-in-Some
returns-in_ok-_old-in-Some c = λ texts has.
    let sets = btree_map_updates_str c.args.text.now c.args.counts.now c.insert.new.self _ c.in_ok-_old-in-Some.ensures.updates in
    let is : c.in-Some.more ≡ unwrap_or (get_by (λ k. text_cmp c.args.text.now k.now) c.args.counts.now) 0 + 1 = grind (arith, common_steps) in
    counts_more c.args.counts.now c.insert.new.self texts c.args.text.now c.in-Some.more sets is has
