pub mod Heights
pub mod Plan
pub mod Call
pub mod planwalk
pub mod planjudge
pub mod plancall
pub mod fullplan
