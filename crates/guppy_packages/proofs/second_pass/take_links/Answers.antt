use Rattle.std.proofs.Common.{◌≡◌, ◌<◌, ◌≤◌, ◌+◌, ◌∙◌, [], arith, length, rules, subst, sym, take}
use Rattle.std.proofs.lemmas.List.{take_all}
use Rattle.guppy_packages.specs.Graph.{dependencies_of, faults_by, link_fault, links_of}
use Rattle.guppy_packages.specs.Stored.{link_tables, package_tables}
use Rattle.guppy_packages.proofs.Lists.{drop_at}
use Rattle.guppy_packages.proofs.Passes.{second_answers, second_goes_on}
use Rattle.guppy_packages.specs.inner.RowTexts.{row_texts}
use Rattle.guppy_packages.proofs.RowTextLemmas.{next_at, row_at}
use Rattle.guppy_packages.proofs.second_pass.take_links.Goals as goal

pub take_link-requires-clause-texts : goal.take_link-requires-clause-texts
take_link-requires-clause-texts g c =
    let all = g.S.RowSource.rows c.args.source.now in
    let i = c.loop-row.row in
    rw c.loop-row.invariant.at (row_at row_texts all i _ (drop_at all i _ c.row.ensures) c.args.list.now.value c.requires)

pub returns-in-Err-clause-tables : goal.returns-in-Err-clause-tables
returns-in-Err-clause-tables g c =
    let all = g.S.RowSource.rows c.args.source.now in
    let packages = package_tables c.args.packages.now in
    let i = c.loop-row.row in
    let at = drop_at all i _ c.row.ensures in
    let within : i < length all = search rules in
    second_answers all i _ within at packages c.loop-row.invariant.none c.loop-row.noted.begun c.loop-row.invariant.counted (link_tables c.loop-row.links.items) c.loop-row.invariant.tables (Unit {0}) c.in-Err.fault c.new-in-Err.result (link_tables c.take_link.new.links.items) (links_of (dependencies_of packages all)) c.new-in-Err.ensures.fault c.new-in-Err.ensures.row c.in-Err.ensures.tables

pub loop-row-preserved : goal.loop-row-preserved
loop-row-preserved g c =
    let all = g.S.RowSource.rows c.args.source.now in
    let packages = package_tables c.args.packages.now in
    let i = c.loop-row.row in
    let at = drop_at all i _ c.row.ensures in
    let within : i < length all = search rules in
    let next = second_goes_on all i _ within at packages c.loop-row.invariant.none c.loop-row.noted.begun c.loop-row.invariant.counted (link_tables c.loop-row.links.items) c.loop-row.invariant.tables (link_tables c.take_link.new.links.items) c.in_default.ensures.tables in
    let few : c.take_link.new.noted.begun ≤ i + 1 = omega (arith, c.in_default.ensures.few) in
    record {
      few = few;
      none = next.0;
      counted = c.in_default.ensures.begun ∙ next.1;
      at = next_at row_texts all i _ at within c.loop-row.noted.at c.take_link.new.noted.at c.loop-row.invariant.at c.in_default.ensures.at;
      size = c.in_default.ensures.count;
      noted = c.in_default.ensures.noted;
      tables = next.2;
    }

pub returns-clause-tables : goal.returns-clause-tables
returns-clause-tables g c =
    let all = g.S.RowSource.rows c.args.source.now in
    let packages = package_tables c.args.packages.now in
    let end : length all ≤ c.loop-row.row = search rules in
    let whole : take c.loop-row.row all ≡ all = take_all c.loop-row.row all end in
    let none : faults_by (link_fault packages) all ≡ [] = subst (λ rows. faults_by (link_fault packages) rows ≡ []) whole c.loop-row.invariant.none in
    let tables : link_tables c.loop-row.links.items ≡ links_of (dependencies_of packages all) = subst (λ rows. link_tables c.loop-row.links.items ≡ links_of (dependencies_of packages rows)) whole c.loop-row.invariant.tables in
    rw (none, sym tables, c.shrink_to_fit.ensures.items)
