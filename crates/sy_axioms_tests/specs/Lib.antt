pub mod Crossed
pub mod MeatSale
pub mod SaleOrder
