-- Parts whose names are near to a word.
use Rattle.plan_names.specs.Names.{NamedText}
use Rattle.plan_names.specs.Views.{named_text}
use Rattle.plan_names.specs.declared.near.Near.{Near}

abbrev pub near_text : Near → NamedText
near_text n = named_text n.named
