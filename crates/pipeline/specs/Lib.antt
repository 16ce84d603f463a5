-- What the contracts speak of: the depths of a run, and what a step leaves.
pub mod Plans
