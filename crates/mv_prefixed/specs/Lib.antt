pub mod Form
pub mod LenForm
pub mod Reading
