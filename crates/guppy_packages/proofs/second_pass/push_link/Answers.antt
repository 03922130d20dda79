use Rattle.std.proofs.Common.{◌≡◌, ◌∙◌, Some, true, false, length, ap, refl, subst, sym}
use Rattle.std.specs.Prelude.{slice_get}
use Rattle.std.specs.Option.{option_map_or}
use Rattle.std.proofs.lemmas.List.{map-set}
use Rattle.std.proofs.lemmas.Option.{slice_get_read}
use Rattle.guppy_packages.specs.Parts.{first_text}
use Rattle.guppy_packages.specs.Stored.{declared, link_table, link_tables}
use Rattle.guppy_packages.specs.inner.Noted.{AreNoted}
use Rattle.guppy_packages.specs.inner.Steps.{joins}
use Rattle.guppy_packages.proofs.NotedLemmas.{link_there, missing_link, noted_given, noted_joined, noted_link, noted_new, on_ok}
use Rattle.guppy_packages.proofs.TakenLemmas.{link_begun, link_joined}
use Rattle.guppy_packages.proofs.second_pass.push_link.Goals as goal

pub returns-then-joins_pair-clause-tables : goal.returns-then-joins_pair-clause-tables
returns-then-joins_pair-clause-tables c =
    let es = c.args.links.now.items in
    let at = c.index.result.now in
    let from = c.args.from in
    let to = c.args.to in
    let is : slice_get c.args.noted.now.last.items to ≡ Some at = slice_get_read c.args.noted.now.last.items (length c.args.noted.now.last.items) to at refl c.requires.within c.index.ensures in
    let entry = c.index_mut.result.now in
    let passes : option_map_or (joins from to) (slice_get (link_tables es) at) false ≡ true = ap (λ ls. option_map_or (joins from to) (slice_get (link_tables ls) at) false) (sym c.deref.ensures.value) ∙ sym c.joins_pair.ensures ∙ c.if-joins_pair.true in
    let there = link_there (joins from to) es at entry passes c.index_mut.ensures.value in
    let place = noted_link from to (link_tables es) c.args.noted.now.last.items c.args.noted.now.first c.requires.noted at is (link_table entry) there.0 there.1 in
    rw (map-set link_table es at (entry.0, c.join_link.new.link)) (link_joined from to (first_text c.args.declaration.texts) (declared c.args.declaration) (link_tables es) at (link_table entry) (link_table (entry.0, c.join_link.new.link)) c.join_link.result place there.0 (c.join_link.ensures entry.0))

pub returns-then-joins_pair-clause-noted : goal.returns-then-joins_pair-clause-noted
returns-then-joins_pair-clause-noted c =
    let es = c.args.links.now.items in
    let at = c.index.result.now in
    let from = c.args.from in
    let to = c.args.to in
    let is : slice_get c.args.noted.now.last.items to ≡ Some at = slice_get_read c.args.noted.now.last.items (length c.args.noted.now.last.items) to at refl c.requires.within c.index.ensures in
    let entry = c.index_mut.result.now in
    let passes : option_map_or (joins from to) (slice_get (link_tables es) at) false ≡ true = ap (λ ls. option_map_or (joins from to) (slice_get (link_tables ls) at) false) (sym c.deref.ensures.value) ∙ sym c.joins_pair.ensures ∙ c.if-joins_pair.true in
    let there = link_there (joins from to) es at entry passes c.index_mut.ensures.value in
    on_ok c.join_link.result _ (subst (λ ls. AreNoted from ls c.args.noted.now.last.items c.args.noted.now.first) (sym (map-set link_table es at (entry.0, c.join_link.new.link))) (noted_joined from to (link_tables es) c.args.noted.now.last.items c.args.noted.now.first c.requires.noted at is (link_table entry) (link_table (entry.0, c.join_link.new.link)) there.0 refl refl))

pub returns-clause-tables : goal.returns-clause-tables
returns-clause-tables c =
    let es = c.args.links.now.items in
    let at = c.index.result.now in
    let from = c.args.from in
    let to = c.args.to in
    let is : slice_get c.args.noted.now.last.items to ≡ Some at = slice_get_read c.args.noted.now.last.items (length c.args.noted.now.last.items) to at refl c.requires.within c.index.ensures in
    let missing : option_map_or (joins from to) (slice_get (link_tables es) at) false ≡ false = ap (λ ls. option_map_or (joins from to) (slice_get (link_tables ls) at) false) (sym c.deref.ensures.value) ∙ sym c.joins_pair.ensures ∙ c.if-joins_pair.false in
    let none = missing_link from to (link_tables es) c.args.noted.now.last.items c.args.noted.now.first c.requires.noted at is missing in
    link_begun from to (first_text c.args.declaration.texts) (declared c.args.declaration) (link_tables es) (link_tables c.begin_link.new.links.items) c.begin_link.result none c.begin_link.ensures.links c.begin_link.ensures.fault

pub returns-clause-noted : goal.returns-clause-noted
returns-clause-noted c =
    let es = c.args.links.now.items in
    let at = c.index.result.now in
    let from = c.args.from in
    let to = c.args.to in
    let is : slice_get c.args.noted.now.last.items to ≡ Some at = slice_get_read c.args.noted.now.last.items (length c.args.noted.now.last.items) to at refl c.requires.within c.index.ensures in
    let missing : option_map_or (joins from to) (slice_get (link_tables es) at) false ≡ false = ap (λ ls. option_map_or (joins from to) (slice_get (link_tables ls) at) false) (sym c.deref.ensures.value) ∙ sym c.joins_pair.ensures ∙ c.if-joins_pair.false in
    let new = noted_new from to (link_tables es) c.args.noted.now.last.items c.args.noted.now.first c.requires.noted at is missing _ refl refl c.requires.within in
    noted_given c.begin_link.result from c.args.noted.now.first _ (link_tables c.begin_link.new.links.items) _ c.begin_link.new.last.items c.begin_link.ensures.links c.begin_link.ensures.last new
