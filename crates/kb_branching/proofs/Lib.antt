mod Inserting
mod Steps
mod Whole
mod Counting
