pub mod PlanViews
pub mod Plans
pub mod inner
