pub mod ListLemmas
pub mod OrderLemmas
pub mod RingLemmas
pub mod BumpLemmas
