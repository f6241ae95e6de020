pub mod Profile
pub mod ProfileTier
pub mod Hrd
pub mod Vui
pub mod ScalingListValue
pub mod ScalingLists
pub mod SubLayerOrdering
