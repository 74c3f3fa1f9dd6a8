-- A join over two books that were merged. Definitions and proofs only.
pub mod Season
