pub mod AnswerStandings
pub mod AskedLines
pub mod LineKeys
pub mod Standings
pub mod WholeOutput
