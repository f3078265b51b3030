mod Controls
mod Encodings
mod Fronts
mod Runs
