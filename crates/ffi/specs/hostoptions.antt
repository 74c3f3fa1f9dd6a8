pub mod HostOptions
