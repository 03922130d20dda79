use Rattle.std.proofs.Common.{◌++◌, ◌<◌, ◌≤◌, ◌∙◌, ap, arith, length, take}
use Rattle.std.specs.Prelude.{filter_map}
use Rattle.std.specs.Str.{bytes_eq}
use Rattle.guppy_packages.specs.Graph.{firsts}
use Rattle.guppy_packages.specs.Metadata.{link_table_of}
use Rattle.guppy_packages.specs.Rows.{Declared}
use Rattle.guppy_packages.specs.Stored.{declared}
use Rattle.guppy_packages.specs.declared.declaration.Declaration.{Declaration}
use Rattle.guppy_features.proofs.TextSets.{options_more, options_all}
use Rattle.guppy_features.proofs.graph_platforms.spec_texts.insert_link.Goals as goal

pub loop-declaration-preserved : goal.loop-declaration-preserved
loop-declaration-preserved c = λ before h.
    let declarations = c.declarations-declarations.result.now in
    let i = c.loop-declaration.declaration-index in
    let item = c.declaration-item.result in
    let below : i < length declarations = omega arith in
    c.in_ok-insert_platform.ensures (declared item).platform (before ++ filter_map (λ (d : Declaration). (declared d).platform) (take i declarations)) c.platform.ensures (c.loop-declaration.invariant before h)
    ∙ ap (firsts bytes_eq) (options_more (λ (d : Declaration). (declared d).platform) before declarations i item below c.declaration-item.is)

pub returns : goal.returns
returns c = λ before h.
    let declarations = c.declarations-declarations.result.now in
    let i = c.loop-declaration.declaration-index in
    let ended : length declarations ≤ i = omega arith in
    c.loop-declaration.invariant before h
    ∙ ap (λ z. firsts bytes_eq (before ++ z)) (options_all (λ (d : Declared). d.platform) declared declarations (link_table_of c.args.link).declarations i ended c.declarations-declarations.ensures)
