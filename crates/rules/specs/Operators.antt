-- The operators, each in its own file: its number and name, its keys, the rule on its arguments, what it does forward and inverse, and
-- its text. Descriptions says what is asked of an operator, and Table has them all.
pub mod Acts
pub mod Arguments
pub mod Numbers
pub mod Keys
pub mod Descriptions
pub mod PushPop
pub mod Stack
pub mod Axisswap
pub mod Adapt
pub mod Documented
pub mod Table
