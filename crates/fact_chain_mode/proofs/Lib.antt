pub mod ChainTold
pub mod NamedCalls
pub mod PairLaws
pub mod ReplyLaws
