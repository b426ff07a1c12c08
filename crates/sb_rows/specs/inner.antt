pub mod AddedCustomer
pub mod CustomerLine
pub mod PaddedName
pub mod Spaces
pub mod WordsOfRest
