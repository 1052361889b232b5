pub mod ByNumber
pub mod CrossedNeeds
pub mod Naming
pub mod SaleNeeds
