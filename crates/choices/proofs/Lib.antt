pub mod ChoiceLaws
pub mod MaskLaws
pub mod PlanLaws
pub mod PartLaws
