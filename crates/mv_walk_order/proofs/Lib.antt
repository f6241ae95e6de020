pub mod OrderLaws
pub mod QueueLaws
pub mod SpsLaws
pub mod StepLaws
pub mod UnitLaws
pub mod Validity
