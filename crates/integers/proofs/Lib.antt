pub mod Tests
pub mod Ints
pub mod Rings
pub mod Moduli
pub mod Primes
pub mod PrimeFields
pub mod Orders
pub mod Rounds
