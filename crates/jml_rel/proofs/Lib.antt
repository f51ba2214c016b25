mod Shown
mod Linking
mod Forms
mod Environments
mod Gathering
mod Objects
mod Starting
mod Sorting
