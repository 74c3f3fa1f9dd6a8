pub mod FrameLaws
pub mod RoomLaws
