-- The value that Rust's type contains.
use Rattle.plan_names.specs.wider.texts.Lines as spec
use Rattle.plan_names.specs.wider.texts.Lines.{SaidText}
use Rattle.plan_names.specs.declared.wider.texts.said.Said.{Said}
use Rattle.plan_names.specs.declared.wider.texts.said.Said.TheVariants as said

abbrev pub said_text : Said → SaidText
said_text (said.On lines) = spec.on_by lines.now
said_text (said.Unbuilt message) = spec.unbuilt message.now
said_text said.Off = spec.off
said_text (said.NotPlanned message) = spec.not_planned message.now
