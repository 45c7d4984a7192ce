-- lemmas
mod Pieces
mod Checked
