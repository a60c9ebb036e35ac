pub mod Ports
pub mod Gathers
pub mod BytesFitSize
pub mod NoByteAtPort
pub mod SecondPass
pub mod LineAlone
