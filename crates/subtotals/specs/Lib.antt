pub mod subtables
pub mod takejudge
pub mod takejoin
pub mod takewords
pub mod joincall
