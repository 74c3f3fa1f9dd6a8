pub mod AddRows
