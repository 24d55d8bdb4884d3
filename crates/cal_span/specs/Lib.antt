pub mod SignedDuration
pub mod Fields
pub mod FieldsLaws
