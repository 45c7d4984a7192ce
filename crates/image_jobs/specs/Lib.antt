-- definitions that contracts cite
pub mod Answering
pub mod Asked
pub mod Build
pub mod BuildArm
pub mod ListArm
pub mod MapArm
pub mod OnDevices
pub mod Printed
pub mod Run
