pub mod AgreementLaws
pub mod StateLaws
pub mod TrackerLaws
