pub mod HeldOneMore
pub mod InOrder
pub mod Kept
pub mod OneMore
