pub mod Good
pub mod CallLaws
pub mod PortsMeet
pub mod TurnCallLaws
pub mod moves
