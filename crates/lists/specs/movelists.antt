-- Lists of calls after a move: they are answered as if there had been none. Definitions and proofs only.
pub mod MoveLists
