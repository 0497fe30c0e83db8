pub mod CaseLaws
pub mod FieldLaws
pub mod FieldNames
pub mod KindLaws
pub mod KnownLaws
pub mod LeftLaws
pub mod MeasureLaws
pub mod MemberLaws
mod NameSets
pub mod ScalarLaws
