mod Decimals
mod Growing
