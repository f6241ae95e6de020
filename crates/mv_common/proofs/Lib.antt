pub mod ProfileTiers
pub mod ScalingLaws
