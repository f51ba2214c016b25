pub mod KindForms
pub mod Lists
