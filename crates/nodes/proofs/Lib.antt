pub mod Outcomes
pub mod LookingLaws
pub mod RoomLaws
pub mod ChangingLaws
pub mod PermittingLaws
