-- What the answer readers show of the frames that a join writes: neither shows a distance as a price. Statements and proofs; no code.
pub mod Prices
