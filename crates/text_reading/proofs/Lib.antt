pub mod Frames
pub mod Stops
pub mod Beyond
pub mod Wholes
pub mod ExpressionLaw
pub mod ArgumentReaders
pub mod ArgumentsLaw
pub mod TextLaw
