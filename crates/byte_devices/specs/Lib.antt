pub mod Devices
pub mod StdDevices
