pub mod Rules
pub mod Running
pub mod Reading
pub mod Plans
pub mod LivePlans
