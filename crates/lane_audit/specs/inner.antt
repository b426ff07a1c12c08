pub mod NetBounds
