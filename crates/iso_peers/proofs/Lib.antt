mod InStep
mod Leaving
mod Outlive
mod Pieces
