pub mod ChainLaws
pub mod PassedLaws
pub mod UnansweredLaws
