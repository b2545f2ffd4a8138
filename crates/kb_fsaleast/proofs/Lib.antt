mod Texts
mod Marks
mod Members
mod Steps
mod Accepted
