pub mod NodeOpening
pub mod WorldOpening
