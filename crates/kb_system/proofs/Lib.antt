mod Acceptors
mod Halts
