pub mod Asked
pub mod SystemWords
pub mod RightTexts
