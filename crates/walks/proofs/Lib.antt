pub mod ListLaws
pub mod LogLaws
pub mod StepLaws
pub mod WalkLaws
