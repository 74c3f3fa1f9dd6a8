-- Two sorted tables cut at boundary groups, each pair of parts joined, the answers appended as one table. Definitions only.
pub mod Cut
pub mod Driver
