pub mod Learnt
pub mod Marked
pub mod Noted
pub mod Reasons
pub mod Settled
pub mod Walk
