mod Allowed
mod Answers
mod Frames
