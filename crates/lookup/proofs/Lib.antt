pub mod ReachLaws
pub mod RightsLaws
pub mod ChildrenLaws
pub mod ListingLaws
pub mod WalkLaws
