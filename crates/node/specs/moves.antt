-- A join moved to other areas: what the call answers and leaves, by definition. Definitions and laws; no code.
pub mod Moves
pub mod Requires
