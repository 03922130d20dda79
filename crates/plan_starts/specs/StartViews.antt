-- The value that starts contain.
use Rattle.plan_starts.specs.Starts as spec
use Rattle.plan_starts.specs.declared.starts.Starts.{Starts}

abbrev pub starts_text : Starts → spec.Starts
starts_text s = record { macros = s.macros.items; others = s.others.items; hosts = s.hosts.items; dev_macros = s.dev_macros.items; dev_others = s.dev_others.items; unmet = s.unmet }
