pub mod Free
pub mod SizeRows
pub mod Pieces
