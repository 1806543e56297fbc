mod Indices
mod Chaining
mod Walking
