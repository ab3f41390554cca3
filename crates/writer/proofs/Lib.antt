mod Begun
mod Drafting
mod Missing
mod Sealing
