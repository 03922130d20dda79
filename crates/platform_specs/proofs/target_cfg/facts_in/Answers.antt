use Rattle.std.proofs.Common.{◌≡◌, true, length, ◌+◌}
use Rattle.platform_specs.specs.Grammar.{lines_of}
use Rattle.platform_specs.proofs.Lines.{lines_step, size_step, lines_end}
use Rattle.platform_specs.proofs.target_cfg.facts_in.Goals as goal

pub lines-preserved : goal.lines-preserved
lines-preserved c =
    let f : c.in_ok-read_line.field-0 ≡ true = cc in
    record {
      read = lines_step (lines_of c.args.text.now) c.lines.rest c.in-Some.current c.first_line.result.0.now c.first_line.result.1 c.lines.number c.lines.facts.items c.read_line.new.facts.items c.in_ok-read_line.field-0
          c.lines.invariant.read c.in-Some.is c.first_line.ensures.lines c.in_ok-read_line.ensures f;
      count = size_step c.lines.rest c.in-Some.current c.first_line.result.1 c.lines.number (length c.args.text.now + 1) c.lines.invariant.count c.in-Some.is c.first_line.ensures.shorter;
    }

pub returns-clause-found : goal.returns-clause-found
returns-clause-found c = lines_end (lines_of c.args.text.now) c.lines.rest c.lines.number c.lines.facts.items c.lines.invariant.read c.in_default.not-Some
