pub mod boundaries
pub mod cutcall
pub mod cutpairs
pub mod cutroom
pub mod cutrows
