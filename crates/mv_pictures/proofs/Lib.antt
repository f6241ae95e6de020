mod ExampleUnits
mod Observing
mod Examples
mod RuleUnits
mod RuleExamples
pub mod Nearest
