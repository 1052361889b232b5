pub mod PositionRows
pub mod ContractRows
