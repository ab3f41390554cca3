mod Values
mod Order
mod Eighths
mod Exact
mod Squares
