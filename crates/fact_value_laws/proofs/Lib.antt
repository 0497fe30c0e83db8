pub mod AgreementLaws
pub mod PassingLaws
pub mod CaseLaws
pub mod CrossingLaws
pub mod CompositionLaws
