pub mod Founds
pub mod Printed
pub mod Refusals
pub mod RuleTexts
pub mod Scened
pub mod Verdicts
