mod Agreed
mod Lists
mod Noted
mod Played
mod Replayed
mod Startable
mod Without
mod Written
