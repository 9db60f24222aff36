mod Batches
mod Events
mod Follow
mod Headings
mod Hosts
mod Logs
mod Sending
mod Taken
