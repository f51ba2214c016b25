mod Row
mod Six
