-- What the calls over a lent row of step records say of the calls by value.
pub mod Plans
pub mod PlanOfTable
pub mod TableOfRow
