pub mod Buffer
pub mod Buffered
pub mod Call
pub mod Faults
pub mod MemSink
pub mod MemSource
pub mod Sink
pub mod Source
