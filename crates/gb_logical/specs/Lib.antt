pub mod Categorical
pub mod CategoricalBuilder
pub mod Logical
