pub mod FreshLaws
pub mod EventLaws
pub mod OneOutcome
pub mod CheckLaws
pub mod RequestLaws
