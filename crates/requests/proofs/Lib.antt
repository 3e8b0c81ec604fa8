pub mod PlaceLaws
pub mod NodeLaws
pub mod HandleLaws
