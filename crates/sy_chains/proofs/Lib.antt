pub mod ChainTurn
pub mod Climbs
pub mod Noted
pub mod Ups
