pub mod OpeningLines
pub mod OpeningListings
pub mod PlaceLines
pub mod StatedFaults
pub mod StatedOpenings
pub mod StatedSpellings
