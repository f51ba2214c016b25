pub mod LiteralLemmas
pub mod RightLemmas
pub mod ThreadLemmas
pub mod TrailLemmas
pub mod VisitLemmas
pub mod WatchLemmas
