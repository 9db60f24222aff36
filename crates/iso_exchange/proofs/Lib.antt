mod Packs
mod Purchases
mod Telling
mod Viewed
