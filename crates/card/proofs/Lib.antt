mod Fractions
mod Pairs
mod Ranges
mod Rounding
mod Shares
