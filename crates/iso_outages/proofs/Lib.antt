mod Lists
mod Carried
mod Delivered
mod Without
mod Agreed
mod Called
