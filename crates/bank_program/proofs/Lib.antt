pub mod CutRests
pub mod JoinedTexts
pub mod LinesShown
pub mod MovedPieces
pub mod ShownCheckpoints
