pub mod DialRules
pub mod PacketRules
pub mod DialLaw
pub mod Places
pub mod Symbols
pub mod PacketLaw
pub mod BitLaws
