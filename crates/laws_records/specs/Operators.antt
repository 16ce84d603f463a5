-- The laws of each operator, in a file of its own, and all of them together.
pub mod PushPop
pub mod Stack
pub mod Axisswap
pub mod Adapt
pub mod Table
