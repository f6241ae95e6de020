pub mod References
pub mod LayerInfos
pub mod LayerSets
pub mod OutputLayers
pub mod Derived
pub mod PerLayer
