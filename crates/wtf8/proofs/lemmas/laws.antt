pub mod ComparisonLaws
pub mod ViewLaws
