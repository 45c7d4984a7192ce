-- lemmas
mod Chunks
mod Fits
mod OneChunk
mod Pieces
mod Powers
mod Stored
mod TheLaw
