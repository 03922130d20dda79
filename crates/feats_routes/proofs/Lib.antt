pub mod Loops
pub mod PlanRoutes
