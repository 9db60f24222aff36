mod Buckets
mod Ranks
