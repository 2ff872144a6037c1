-- Laws of the command record and its parts, and the proofs of the functions that write it.
mod Layouts
pub mod Lengths
pub mod Fits
pub mod ListsBack
pub mod RoundTrip
mod Said
pub mod ReadThenWritten
