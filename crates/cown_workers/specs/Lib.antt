pub mod BenchCrews
pub mod Draining
pub mod Traces
pub mod inner
