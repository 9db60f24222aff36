mod Back
mod Columns
mod Headings
mod Pieces
mod Scanned
mod Written
