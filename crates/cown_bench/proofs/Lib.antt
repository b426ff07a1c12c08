mod DrainLaws
mod EnumeratedLists
mod PassViewLaws
mod PickLists
mod RuleSteps
mod Sums
