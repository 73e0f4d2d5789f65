-- The laws that the proof of the function cites.
mod Arrays
