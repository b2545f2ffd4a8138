mod LastLines
mod Rounds
