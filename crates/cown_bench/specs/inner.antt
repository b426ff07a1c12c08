pub mod BenchRule
pub mod PassViews
