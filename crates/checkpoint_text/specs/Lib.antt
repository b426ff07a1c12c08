pub mod Faults
pub mod Listing
pub mod Origins
pub mod inner
