-- definitions that contracts cite
pub mod CopyArm
pub mod Devices
pub mod ForgetArm
pub mod VerifyArm
