pub mod InsertLaws
