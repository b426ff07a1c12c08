pub mod OptionSearch
pub mod OptionValues
pub mod SubcommandWords
