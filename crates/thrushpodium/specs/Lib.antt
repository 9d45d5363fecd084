pub mod Subscribing
pub use Rattle.dds_cache.specs.Cache
pub use Rattle.dds_cache.specs.Standing
pub use Rattle.rtps_discovery.specs.Asking
pub use Rattle.rtps_discovery.specs.Start
