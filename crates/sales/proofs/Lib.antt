pub mod salecount
