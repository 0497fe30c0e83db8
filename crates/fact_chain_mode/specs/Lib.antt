pub mod ChainInputs
pub mod ChainReplies
pub mod ChainTexts
