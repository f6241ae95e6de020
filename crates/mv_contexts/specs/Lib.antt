pub mod PpsFits
pub mod Sets
pub mod SpsFits
pub mod Units
pub mod VpsFits
