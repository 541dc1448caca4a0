pub mod Distinct
pub mod Extremes
pub mod Folds
pub mod Lists
pub mod Method
pub mod Numbered
pub mod Over
pub mod Picks
