pub mod Value
pub mod Key
pub mod Decoded
pub mod ReadParts
pub mod ReadLaw
pub mod KeyLaw
pub mod Texts
pub mod Log
