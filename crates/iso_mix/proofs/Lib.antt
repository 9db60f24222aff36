mod Began
mod Kept
mod Placed
mod Shares
