pub mod Plain
pub mod Tests
pub mod Truth
pub mod Trial
pub mod Found
