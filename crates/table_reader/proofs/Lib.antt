-- lemmas
pub mod BackupSteps
pub mod ChainSteps
pub mod Fronts
pub mod HalfSteps
pub mod TableForm
