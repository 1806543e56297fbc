mod Words
mod Texts
mod Hexes
mod Numbers
mod Lines
mod Spelling
