use Rattle.std.proofs.Common.{◌≡◌, ◌<◌, ◌∙◌, Some, length, get_or, slice_get, arith, sym}
use Rattle.std.proofs.lemmas.List.{length-map}
use Rattle.std.proofs.lemmas.Option.{slice_get-get_or, slice_get_within}
use Rattle.guppy_packages.specs.Stored.{link_table, link_tables, package_table, package_tables}
use Rattle.guppy_packages.specs.Tables.{Tables}
use Rattle.guppy_packages.proofs.LinkRanges.{begun_up, leaves_behind}
use Rattle.guppy_packages.proofs.Lists.{slice_get-map}
use Rattle.guppy_packages.proofs.link_begins.link_begins.Goals as goal

pub loop-place-preserved : goal.loop-place-preserved
loop-place-preserved c =
    let es = c.args.links.now in
    let t : Tables = record { packages = package_tables c.args.packages.now; links = link_tables es } in
    let k = c.loop-place.place in
    let i = c.loop-place.invariant in
    let e = c.in_ok-begin_up_to.ensures in
    let links = length-map es link_table in
    let inside : k < length es = omega (arith, c.loop-place-test.true) in
    let link = get_or es k c.index-links-place.result in
    let read : slice_get t.links k ≡ Some (link_table link) = slice_get-map link_table es k link (slice_get-get_or es k c.index-links-place.result inside) in
    let count : c.len-count.result ≡ length t.packages = c.len-count.ensures ∙ sym (length-map c.args.packages.now package_table) in
    let leaves = (c.requires.ends k (link_table link) read).0 in
    record {
      begun = begun_up t.links c.loop-place.begins.items c.begin_up_to.new.begins.items link.0.0 k i.begun (omega (arith, links, inside)) i.before (leaves_behind t c.requires k (link_table link) read) e.long e.kept e.added;
      before = λ j l got less. let le = leaves_behind t c.requires j l got k (link_table link) read (omega (arith, less)) in omega (arith, le, e.long);
      few = omega (arith, e.long, i.few, leaves, count);
    }

pub returns : goal.returns
returns c =
    let es = c.args.links.now in
    let t : Tables = record { packages = package_tables c.args.packages.now; links = link_tables es } in
    let i = c.loop-place.invariant in
    let e = c.in_ok-begin_up_to-2.ensures in
    let links = length-map es link_table in
    let count : c.len-count.result ≡ length t.packages = c.len-count.ensures ∙ sym (length-map c.args.packages.now package_table) in
    record {
      long = omega (arith, e.long, i.few, count);
      begun = begun_up t.links c.loop-place.begins.items c.begin_up_to-2.new.begins.items c.len-count.result (length es) i.begun (omega (arith, links))
          (λ j l got less. i.before j l got (omega (arith, less, c.loop-place-test.false))) (λ j l got ge. absurd (omega (arith, ge, links, slice_get_within t.links j l got))) e.long e.kept e.added;
    }
