-- The normal form in one go: the machine (Machine); that it writes the normal form (OneGo, over Scans, Tidy, Hold, Whole); what follows for lengths, separators and
-- steps (Weighed, Separated, Crowded, Windows).
pub mod Scans
pub mod Tidy
pub mod Hold
pub mod Whole
pub mod Machine
pub mod OneGo
pub mod Separated
pub mod Weighed
pub mod Crowded
pub mod Windows
