pub mod Cleanings
pub mod EdgeLemmas
pub mod PaddedTexts
pub mod PaddingReach
