pub mod PortRule
