pub mod RowsByPlace
